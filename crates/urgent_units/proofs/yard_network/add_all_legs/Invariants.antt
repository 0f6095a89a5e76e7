-- The legs of the units so far.
use Rattle.std.proofs.Common.{map}
use Rattle.std.specs.Prelude.{take}
use Rattle.std.specs.List.{flat_map}
use Rattle.urgent_units.specs.NetworkSteps.{HasMore}
use Rattle.urgent_units.specs.YardNetwork.{leg_arc}
use Rattle.urgent_units.proofs.yard_network.add_all_legs.Given as goal

abbrev pub invariant-loop-unit : goal.invariant-loop-unit
invariant-loop-unit l = HasMore l.legs l.fn.network (map (leg_arc l.legs) (flat_map (λ unit. unit.legs) (take l.unit-index l.units))) l.network
