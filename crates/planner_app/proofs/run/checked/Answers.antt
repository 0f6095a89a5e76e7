use Rattle.planner_app.specs.Outcomes.{NoAnswer, OfAnswer}
use Rattle.planner_app.proofs.run.checked.Goals as goal

pub returns-in-Err-clause-outcome : goal.returns-in-Err-clause-outcome
returns-in-Err-clause-outcome g c = NoAnswer c.in-Err.ensures.error

pub returns-in-Ok-clause-outcome : goal.returns-in-Ok-clause-outcome
returns-in-Ok-clause-outcome g c =
    OfAnswer c.in-Ok.answered.instance c.in-Ok.answered.answer c.in-Ok.ensures.read c.checked_answer.ensures.outcome
