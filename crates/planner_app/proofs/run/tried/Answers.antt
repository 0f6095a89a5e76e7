use Rattle.std.proofs.Common.{◌+◌, ◌*◌, refl}
use Rattle.search.proofs.Asking.{are_unasked}
use Rattle.planner_app.specs.DayOutcomes.{IsTried}
use Rattle.planner_app.proofs.run.tried.Goals as goal

pub returns-in_default-clause-asked : goal.returns-in_default-clause-asked
returns-in_default-clause-asked g c =
    are_unasked _ _ (c.args.rounds * (2 * c.args.grant + 1)) c.args.advisors.now.items

pub returns-in-Ok-answer_for-clause-outcome : goal.returns-in-Ok-answer_for-clause-outcome
returns-in-Ok-answer_for-clause-outcome g c =
    IsTried c.in-Ok.instance c.in-Ok.ensures.value c.in-Ok-answer_for.answer c.in-Ok-answer_for.ensures.headline refl

pub returns-in-Ok-answer_for-clause-asked_for : goal.returns-in-Ok-answer_for-clause-asked_for
returns-in-Ok-answer_for-clause-asked_for g c = c.in-Ok-answer_for.ensures.counted
