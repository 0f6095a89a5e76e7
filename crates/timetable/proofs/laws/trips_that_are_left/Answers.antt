use Rattle.timetable.proofs.TripsLeft.{trips_that_are_left}
use Rattle.timetable.proofs.laws.trips_that_are_left.Goals as goal

pub returns : goal.returns
returns c = record { law = trips_that_are_left }
