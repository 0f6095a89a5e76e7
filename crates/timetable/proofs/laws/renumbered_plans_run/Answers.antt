use Rattle.timetable.proofs.Renumbered.{renumbered_plans_run}
use Rattle.timetable.proofs.laws.renumbered_plans_run.Goals as goal

pub returns : goal.returns
returns c = record { law = renumbered_plans_run }
