-- The plans so far.
use Rattle.std.proofs.Common.{◌≡◌, take}
use Rattle.week_plan.specs.DayAnswers.{plans_in}
use Rattle.week_plan.proofs.planning.plans_of.Given as goal

abbrev pub invariant-loop-place : goal.invariant-loop-place
invariant-loop-place l = l.plans.items ≡ plans_in (take l.place l.answers)
