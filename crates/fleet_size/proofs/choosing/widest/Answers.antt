use Rattle.std.proofs.Common.{arith}
use Rattle.fleet_size.proofs.NextBoxes.{wide_or_none, widest_at_end, widest_on}
use Rattle.fleet_size.proofs.choosing.widest.Goals as goal

pub loop-place-init : goal.loop-place-init
loop-place-init c = λ k below. absurd (omega (arith, below))

pub wider-widest-requires-clause-widest : goal.wider-widest-requires-clause-widest
wider-widest-requires-clause-widest c = wide_or_none c.args.fleets.now c.loop-place.place c.loop-place.widest c.loop-place.invariant

pub loop-place-preserved : goal.loop-place-preserved
loop-place-preserved c =
    widest_on c.args.fleets.now c.loop-place.place c.loop-place.widest c.wider-widest.result c.loop-place.invariant
    c.wider-widest.ensures

pub returns : goal.returns
returns c =
    widest_at_end c.args.fleets.now c.loop-place.place c.loop-place.widest c.requires (omega arith)
    c.loop-place.invariant
