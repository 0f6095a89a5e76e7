use Rattle.timetable.proofs.LinkCounts.{trips_count}
use Rattle.timetable.proofs.laws.trips_count.Goals as goal

pub returns : goal.returns
returns c = record { law = trips_count }
