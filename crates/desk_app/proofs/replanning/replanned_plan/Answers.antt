use Rattle.desk_app.specs.ReplanOutcomes.{DoesRun}
use Rattle.desk_app.proofs.replanning.replanned_plan.Goals as goal

pub returns-in-Ok-clause-outcome : goal.returns-in-Ok-clause-outcome
returns-in-Ok-clause-outcome g c = DoesRun c.in-Ok.ensures.runs.0 c.replanned_as_told.ensures.outcome
