use Rattle.std.proofs.Common.{refl}
use Rattle.planner_app.specs.DayOutcomes.{IsPlanned}
use Rattle.planner_app.proofs.run.planned_day.Goals as goal

pub returns-in-Ok-clause-outcome : goal.returns-in-Ok-clause-outcome
returns-in-Ok-clause-outcome g c = IsPlanned c.in-Ok.answer c.in-Ok.ensures.headline refl
