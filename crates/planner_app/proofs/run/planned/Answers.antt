use Rattle.std.proofs.Common.{◌+◌, ◌*◌, rules}
use Rattle.search.proofs.Asking.{are_unasked}
use Rattle.planner_app.specs.Outcomes.{NoDay, OfDay}
use Rattle.planner_app.proofs.Asking.{none_asked_for}
use Rattle.planner_app.proofs.run.planned.Goals as goal

pub returns-in-Err-clause-outcome : goal.returns-in-Err-clause-outcome
returns-in-Err-clause-outcome g c =
    NoDay (record {
      error = c.in-Err.error;
      of_tables = record { told = c.in-Err.ensures.told; says = c.in-Err.ensures.says; caused = c.in-Err.ensures.caused };
      is = search rules;
    })

pub returns-in-Ok-clause-outcome : goal.returns-in-Ok-clause-outcome
returns-in-Ok-clause-outcome g c =
    OfDay c.in-Ok.instance (record { made = c.in-Ok.ensures.made; told = c.in-Ok.ensures.told }) c.planned_day.ensures.outcome

pub returns-in-Err-clause-asked_for : goal.returns-in-Err-clause-asked_for
returns-in-Err-clause-asked_for g c = none_asked_for _ _ c.args.rounds c.in-Err.error _ c.args.advisors.now.items (search rules)

pub returns-in-Err-clause-asked : goal.returns-in-Err-clause-asked
returns-in-Err-clause-asked g c =
    are_unasked _ _ (c.args.rounds * (2 * c.args.grant + 1)) c.args.advisors.now.items
