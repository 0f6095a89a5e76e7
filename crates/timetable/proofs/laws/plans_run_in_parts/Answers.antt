use Rattle.timetable.proofs.Renumbered.{runs_in_parts}
use Rattle.timetable.proofs.laws.plans_run_in_parts.Goals as goal

pub returns : goal.returns
returns c = record { law = runs_in_parts }
