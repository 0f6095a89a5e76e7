-- The moments so far.
use Rattle.std.proofs.Common.{◌≡◌}
use Rattle.flow_network.specs.Flows.{is_reached}
use Rattle.timetable.specs.Lists.{listed}
use Rattle.urgent_units.specs.YardNetwork.{node_of}
use Rattle.urgent_units.proofs.cut.reached_flags.Given as goal

abbrev pub invariant-loop-moment : goal.invariant-loop-moment
invariant-loop-moment l = l.flags.items ≡ listed (λ k. is_reached l.reached (node_of l.legs l.station k)) l.moment
