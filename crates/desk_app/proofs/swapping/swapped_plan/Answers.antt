use Rattle.desk_app.specs.SwapOutcomes.{DoesRun}
use Rattle.desk_app.proofs.swapping.swapped_plan.Goals as goal

pub returns-in-Ok-clause-outcome : goal.returns-in-Ok-clause-outcome
returns-in-Ok-clause-outcome g c = DoesRun c.in-Ok.ensures.runs.0 c.swapped_as_wished.ensures.outcome
