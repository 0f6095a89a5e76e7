use Rattle.std.proofs.Common.{◌+◌, ◌*◌, ◌≤◌, List, length, arith, rules, subst, sym}
use Rattle.timetable.specs.Day.{Day}
use Rattle.search.proofs.Asking.{are_unasked}
use Rattle.week_units.specs.declared.nights.TheConstants.{MAX_DAYS}
use Rattle.desk_app.proofs.PlannedWeeks.{days_read, error_asks_none, no_days}
use Rattle.desk_app.proofs.week_planning.planned_week.Goals as goal

pub planned_days-requires-clause-days : goal.planned_days-requires-clause-days
planned_days-requires-clause-days g c =
    let few : length c.in-Ok.days.items ≤ MAX_DAYS = (let count = c.in-Ok.ensures.count in omega (arith, count, c.requires.days)) in
    subst (λ (ds : List Day). length ds ≤ MAX_DAYS) (sym c.deref.ensures.value) few

pub returns-in-Ok-clause-outcome : goal.returns-in-Ok-clause-outcome
returns-in-Ok-clause-outcome g c =
    days_read c.args.planning.now _ _ c.as_str.result.now c.as_str.ensures c.in-Ok.days.items c.deref.result.now _ c.deref.ensures.value
    c.in-Ok.ensures.made c.in-Ok.ensures.count c.in-Ok.ensures.told c.planned_days.ensures.outcome

pub returns-in-Err-clause-outcome : goal.returns-in-Err-clause-outcome
returns-in-Err-clause-outcome g c =
    no_days c.args.planning.now _ _ c.as_str.result.now c.as_str.ensures c.in-Err.error _ (search rules) c.in-Err.ensures.told
    c.in-Err.ensures.says c.in-Err.ensures.caused

pub returns-in-Err-clause-asked : goal.returns-in-Err-clause-asked
returns-in-Err-clause-asked g c =
    are_unasked _ _ (7 * (c.args.planning.now.rounds * (2 * c.args.planning.now.nodes + 1))) c.args.advisors.now.items

pub returns-in-Err-clause-asked_for : goal.returns-in-Err-clause-asked_for
returns-in-Err-clause-asked_for g c =
    error_asks_none _ _ c.args.planning.now.rounds c.in-Err.error _ c.args.advisors.now.items (search rules)
