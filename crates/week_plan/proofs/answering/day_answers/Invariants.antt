-- The days so far are answered, and the advisors were asked for them alone.
use Rattle.std.proofs.Common.{drop}
use Rattle.week_plan.proofs.Answered.{AnsweredSoFar}
use Rattle.week_plan.proofs.AskedDays.{AskedSoFar}
use Rattle.week_plan.proofs.answering.day_answers.Given as goal

abbrev pub invariant-loop-place : goal.invariant-loop-place
invariant-loop-place g l = record {
  answered : AnsweredSoFar l.allowed.branchings l.days (drop l.place l.days) l.answers.items;
  asked : AskedSoFar (λ b. (goal.Advisor-dyn g (b.vtable, b.value)).asked b.value) (λ b. (goal.Advisor-dyn g (b.vtable, b.value)).identity b.value)
      (λ b. (goal.Advisor-dyn g (b.vtable, b.value)).has_quit b.value) l.allowed.rounds l.allowed.branchings l.fn.advisors.items l.advisors.items l.place l.answers.items;
}
