use Rattle.std.proofs.Common.{◌+◌, ◌*◌, rules}
use Rattle.search.proofs.Asking.{are_unasked}
use Rattle.desk_app.proofs.PlannedDays.{day_planned, no_day, none_asked_for}
use Rattle.desk_app.proofs.planning.planned.Goals as goal

pub returns-in-Ok-clause-outcome : goal.returns-in-Ok-clause-outcome
returns-in-Ok-clause-outcome g c =
    day_planned c.args.planning.now _ _ c.as_str.result.now c.as_str.ensures c.in-Ok.instance c.planned_day.result
    c.in-Ok.ensures.made c.in-Ok.ensures.told c.planned_day.ensures.outcome

pub returns-in-Err-clause-outcome : goal.returns-in-Err-clause-outcome
returns-in-Err-clause-outcome g c =
    no_day c.args.planning.now _ _ c.as_str.result.now c.as_str.ensures c.in-Err.error _ (search rules)
    c.in-Err.ensures.told c.in-Err.ensures.says c.in-Err.ensures.caused

pub returns-in-Err-clause-asked : goal.returns-in-Err-clause-asked
returns-in-Err-clause-asked g c =
    are_unasked _ _ (c.args.planning.now.rounds * (2 * c.args.planning.now.nodes + 1)) c.args.advisors.now.items

pub returns-in-Err-clause-asked_for : goal.returns-in-Err-clause-asked_for
returns-in-Err-clause-asked_for g c =
    none_asked_for _ _ c.args.planning.now.rounds c.in-Err.error _ c.args.advisors.now.items (search rules)
