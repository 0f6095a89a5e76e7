use Rattle.timetable.proofs.Deciding.{plans_are_made}
use Rattle.timetable.proofs.laws.plans_are_made.Goals as goal

pub returns : goal.returns
returns c = record { law = plans_are_made }
