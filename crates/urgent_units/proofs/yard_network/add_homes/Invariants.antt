-- The urgent units so far.
use Rattle.std.proofs.Common.{map}
use Rattle.std.specs.Prelude.{take}
use Rattle.urgent_units.specs.NetworkSteps.{HasMore}
use Rattle.urgent_units.specs.YardNetwork.{home_arc}
use Rattle.urgent_units.proofs.yard_network.add_homes.Given as goal

abbrev pub invariant-loop-unit : goal.invariant-loop-unit
invariant-loop-unit l = HasMore l.legs l.fn.network (map (home_arc l.instance l.legs) (take l.unit-index l.units)) l.network
