-- The moments so far.
use Rattle.timetable.specs.Lists.{listed}
use Rattle.urgent_units.specs.NetworkSteps.{HasMore}
use Rattle.urgent_units.specs.YardNetwork.{wait_arc}
use Rattle.urgent_units.proofs.yard_network.add_waits_at.Given as goal

abbrev pub invariant-loop-moment : goal.invariant-loop-moment
invariant-loop-moment l = HasMore l.legs l.fn.network (listed (wait_arc l.legs l.station) l.moment) l.network
