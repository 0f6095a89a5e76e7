use Rattle.std.proofs.Common.{arith}
use Rattle.urgent_units.proofs.FirstToLeave.{first_found}
use Rattle.urgent_units.proofs.swaps.first_to_leave.Goals as goal

pub returns : goal.returns
returns c =
    first_found c.args.aheads.now c.loop-number.first c.loop-number.departs c.loop-number.number (let all = c.loop-number-test.false in omega (arith, all))
    c.loop-number.invariant.least c.loop-number.invariant.is
