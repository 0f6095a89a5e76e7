use Rattle.std.proofs.Common.{refl}
use Rattle.planner_app.specs.DayOutcomes.{IsJudged}
use Rattle.planner_app.proofs.run.checked_answer.Goals as goal

pub returns-in-Ok-clause-outcome : goal.returns-in-Ok-clause-outcome
returns-in-Ok-clause-outcome c =
    IsJudged c.in-Ok.verdict
    (record { is = c.in-Ok.ensures.verdict; holds = c.in-Ok.ensures.holds; can_come = c.in-Ok.ensures.can_come }) refl
