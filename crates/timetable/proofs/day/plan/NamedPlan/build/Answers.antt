-- The lists of the rows are a plan of the day, and a refusal is so.
use Rattle.std.proofs.Common.{arith, rules}
use Rattle.timetable.specs.Plans.{plan_of}
use Rattle.timetable.proofs.Lists.{lists_are_plan}
use Rattle.timetable.proofs.Plans.{plan_is_said, none_failed, first_failed, answer_is_so}
use Rattle.timetable.proofs.day.plan.NamedPlan.build.Goals as goal

pub returns-clause-is_plan : goal.returns-clause-is_plan
returns-clause-is_plan c = lists_are_plan c.args.instance.now c.args.rows.now c.in_ok-lists.lists.items c.in_ok-lists.ensures.value (omega (arith, c.trips.ensures.value))

pub returns-clause-meaning : goal.returns-clause-meaning
returns-clause-meaning c = plan_is_said c.args.instance.now c.args.rows.now c.in_ok-lists.lists.items c.in_ok-lists.ensures.value (omega (arith, c.trips.ensures.value))

pub returns-clause-passed : goal.returns-clause-passed
unfolding plan_of
returns-clause-passed c = none_failed c.args.instance.now c.args.rows.now c.in_ok-lists.lists.items (search rules)

pub returns-in_err-lists-clause-refusal : goal.returns-in_err-lists-clause-refusal
unfolding plan_of
returns-in_err-lists-clause-refusal c = answer_is_so c.args.instance.now c.args.rows.now c.from_residual.result (search rules)

pub returns-then-rows-trips-clause-refusal : goal.returns-then-rows-trips-clause-refusal
unfolding plan_of
returns-then-rows-trips-clause-refusal c = first_failed c.args.instance.now c.args.rows.now _ (search rules)
