-- The links from one on are noted.
use Rattle.day_tables.specs.LinkTables.{trips_on}
use Rattle.day_tables.proofs.Noting.{AreNoted}
use Rattle.day_tables.proofs.building.link_tables.links_by_trip.Given as goal

abbrev pub invariant-loop-left : goal.invariant-loop-left
invariant-loop-left l = AreNoted (trips_on l.side) l.links l.trips l.left l.table.items

abbrev pub decreases-loop-left : goal.decreases-loop-left
decreases-loop-left l = l.left
