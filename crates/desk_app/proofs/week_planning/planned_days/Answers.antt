use Rattle.std.proofs.Common.{rules}
use Rattle.desk_app.proofs.PlannedWeeks.{fault_asks_none, fault_comes, fault_read}
use Rattle.desk_app.proofs.week_planning.planned_days.Goals as goal

pub returns-in-Err-clause-outcome : goal.returns-in-Err-clause-outcome
returns-in-Err-clause-outcome g c = fault_comes c.args.days.now c.args.planning.now.nodes c.in-Err.refusal _ (search rules) c.in-Err.ensures.refusal

pub returns-in-Err-clause-read : goal.returns-in-Err-clause-read
returns-in-Err-clause-read g c = fault_read c.in-Err.refusal _ (search rules)

pub returns-in-Err-clause-asked_for : goal.returns-in-Err-clause-asked_for
returns-in-Err-clause-asked_for g c = fault_asks_none _ _ c.args.planning.now.rounds c.in-Err.refusal _ _ _ (search rules) c.in-Err.ensures.unasked
