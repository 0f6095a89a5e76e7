use Rattle.planner_app.specs.Outcomes.{NoAnswer, OfAnswer}
use Rattle.planner_app.proofs.reports.reported.Goals as goal

pub returns-in-Err-clause-outcome : goal.returns-in-Err-clause-outcome
returns-in-Err-clause-outcome g c = NoAnswer c.in-Err.ensures.error

pub returns-in-Ok-report_on-clause-outcome : goal.returns-in-Ok-report_on-clause-outcome
returns-in-Ok-report_on-clause-outcome g c =
    OfAnswer c.in-Ok.answered.instance c.in-Ok.answered.answer c.in-Ok.ensures.read c.in-Ok-report_on.ensures
