-- The legs so far.
use Rattle.std.proofs.Common.{map}
use Rattle.std.specs.Prelude.{take}
use Rattle.urgent_units.specs.NetworkSteps.{HasMore}
use Rattle.urgent_units.specs.YardNetwork.{leg_arc}
use Rattle.urgent_units.proofs.yard_network.add_legs_of.Given as goal

abbrev pub invariant-loop-leg : goal.invariant-loop-leg
invariant-loop-leg l = HasMore l.legs l.fn.network (map (leg_arc l.legs) (take l.leg-index l.some)) l.network
