use Rattle.timetable.proofs.MissingSeats.{seats_are_missing_by_class}
use Rattle.timetable.proofs.laws.seats_are_missing_by_class.Goals as goal

pub returns : goal.returns
returns c = record { law = seats_are_missing_by_class }
