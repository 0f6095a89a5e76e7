use Rattle.std.proofs.Common.{rules, refl}
use Rattle.search.proofs.Leaving.{left_alone}
use Rattle.planner_app.specs.Outcomes.{InVain, OfCommand}
use Rattle.planner_app.proofs.Asking.{advisors_left, its_grant, no_folder, within_limits}
use Rattle.planner_app.proofs.run.outcome_of.Goals as goal

pub command_outcome-requires-clause-limits : goal.command_outcome-requires-clause-limits
command_outcome-requires-clause-limits g c =
    within_limits c.args.words.now c.in-Ok.command (c.in-Ok.ensures.understood c.in-Ok.command (search rules))

pub returns-in-Ok-clause-outcome : goal.returns-in-Ok-clause-outcome
returns-in-Ok-clause-outcome g c =
    OfCommand c.in-Ok.command (c.in-Ok.ensures.understood c.in-Ok.command (search rules)) c.command_outcome.ensures.outcome

pub returns-in-Ok-clause-advisors : goal.returns-in-Ok-clause-advisors
returns-in-Ok-clause-advisors g c =
    advisors_left c.args.words.now c.in-Ok.command (c.in-Ok.ensures.understood c.in-Ok.command (search rules)) _ _ _ _ _
    c.command_outcome.ensures.advisors

pub returns-in-Ok-clause-asked_for : goal.returns-in-Ok-clause-asked_for
returns-in-Ok-clause-asked_for g c nodes rounds grants =
    c.command_outcome.ensures.asked_for nodes rounds
    (its_grant c.args.words.now c.in-Ok.command (c.in-Ok.ensures.understood c.in-Ok.command (search rules)) nodes rounds grants)

pub returns-in-Ok-clause-untouched : goal.returns-in-Ok-clause-untouched
returns-in-Ok-clause-untouched g c none =
    c.command_outcome.ensures.untouched
    (no_folder c.args.words.now c.in-Ok.command (c.in-Ok.ensures.understood c.in-Ok.command (search rules)) none)

pub returns-in-Err-NotUnderstood-clause-outcome : goal.returns-in-Err-NotUnderstood-clause-outcome
returns-in-Err-NotUnderstood-clause-outcome g c = InVain (c.in-Err-NotUnderstood.ensures.refused (search rules)) refl

pub returns-in-Err-NotUnderstood-clause-advisors : goal.returns-in-Err-NotUnderstood-clause-advisors
returns-in-Err-NotUnderstood-clause-advisors g c = left_alone _ _ _ _ c.args.advisors.now.items

pub returns-in-Err-NoMemory-clause-advisors : goal.returns-in-Err-NoMemory-clause-advisors
returns-in-Err-NoMemory-clause-advisors g c = left_alone _ _ _ _ c.args.advisors.now.items
