use Rattle.std.proofs.Common.{arith}
use Rattle.fleet_size.proofs.NextBoxes.{all_moved}
use Rattle.fleet_size.proofs.concluding.nodes_of.Goals as goal

pub returns : goal.returns
returns c = all_moved c.loop-slot.nodes.items c.loop-slot.slots.items c.args.slots.items (omega (arith, c.in_default.ensures.cases.0)) c.loop-slot.invariant
