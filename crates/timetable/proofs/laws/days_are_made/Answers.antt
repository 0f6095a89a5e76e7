use Rattle.timetable.proofs.Deciding.{days_are_made}
use Rattle.timetable.proofs.laws.days_are_made.Goals as goal

pub returns : goal.returns
returns c = record { law = days_are_made }
