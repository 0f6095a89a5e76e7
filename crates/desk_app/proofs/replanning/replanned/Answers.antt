use Rattle.std.proofs.Common.{◌+◌, ◌*◌, rules}
use Rattle.search.proofs.Asking.{are_unasked}
use Rattle.desk_app.proofs.PlannedDays.{none_asked_for}
use Rattle.desk_app.proofs.ReplannedRests.{inputs_read, no_inputs}
use Rattle.desk_app.proofs.replanning.replanned.Goals as goal

pub returns-in-Ok-clause-outcome : goal.returns-in-Ok-clause-outcome
returns-in-Ok-clause-outcome g c =
    inputs_read c.args.replanning.now c.as_str.result.now c.as_str.ensures _ _ _ c.in-Ok.read.inputs _ c.in-Ok.ensures.made
    c.in-Ok.ensures.made_plan c.in-Ok.ensures.told c.in-Ok.ensures.only_reads c.replanned_plan.ensures.outcome

pub returns-in-Err-clause-outcome : goal.returns-in-Err-clause-outcome
returns-in-Err-clause-outcome g c =
    no_inputs c.args.replanning.now c.as_str.result.now c.as_str.ensures _ _ c.in-Err.error _ (search rules)
    c.in-Err.ensures.told c.in-Err.ensures.says c.in-Err.ensures.caused

pub returns-in-Err-clause-asked : goal.returns-in-Err-clause-asked
returns-in-Err-clause-asked g c = are_unasked _ _ (c.args.replanning.now.rounds * (2 * c.args.replanning.now.nodes + 1)) c.args.advisors.now.items

pub returns-in-Err-clause-asked_for : goal.returns-in-Err-clause-asked_for
returns-in-Err-clause-asked_for g c =
    none_asked_for _ _ c.args.replanning.now.rounds c.in-Err.error _ c.args.advisors.now.items (search rules)
