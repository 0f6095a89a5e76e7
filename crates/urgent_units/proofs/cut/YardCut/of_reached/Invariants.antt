-- The stations so far.
use Rattle.std.proofs.Common.{◌≡◌}
use Rattle.flow_network.specs.Flows.{is_reached}
use Rattle.timetable.specs.Lists.{listed}
use Rattle.urgent_units.specs.Moments.{moment_count}
use Rattle.urgent_units.specs.YardNetwork.{node_of}
use Rattle.urgent_units.proofs.cut.YardCut.of_reached.Given as goal

abbrev pub invariant-loop-number : goal.invariant-loop-number
invariant-loop-number l =
    l.stations.items ≡ listed (λ s. listed (λ k. is_reached l.reached (node_of l.legs s k)) (moment_count l.legs s)) l.number
