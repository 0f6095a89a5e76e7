-- The stations so far.
use Rattle.timetable.specs.Lists.{joined}
use Rattle.urgent_units.specs.NetworkSteps.{HasMore}
use Rattle.urgent_units.specs.YardNetwork.{wait_arcs}
use Rattle.urgent_units.proofs.yard_network.add_all_waits.Given as goal

abbrev pub invariant-loop-station : goal.invariant-loop-station
invariant-loop-station l = HasMore l.legs l.fn.network (joined (wait_arcs l.legs) l.station) l.network
