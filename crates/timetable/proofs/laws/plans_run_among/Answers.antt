use Rattle.timetable.proofs.Renumbered.{plans_run_among}
use Rattle.timetable.proofs.laws.plans_run_among.Goals as goal

pub returns : goal.returns
returns c = record { law = plans_run_among }
