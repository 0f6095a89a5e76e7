use Rattle.std.proofs.Common.{◌≡◌, ℕ, ◌≤◌, true, false, length, get_or, replicate}
use Rattle.search.specs.Questions.{AreAsked, AreOnlyAsked}
use Rattle.search.specs.NodeAdvice.{IsAdviceFor}
use Rattle.search.specs.Conclusions.{plan_in}
use Rattle.search.specs.NodesInWork.{Advances, is_open_work}
use Rattle.search.specs.Rounds.{AreRounds, advice_state}
use Rattle.search.proofs.rounds.advise.Given as goal

abbrev pub invariant-loop-round : goal.invariant-loop-round
invariant-loop-round g l = record {
  same : g.R.Relaxation.problem l.problem ≡ g.R.Relaxation.problem l.fn.problem;
  advances : Advances (g.R.Relaxation.meanings (g.R.Relaxation.problem l.fn.problem)) l.fn.work.region (plan_in l.fn.best) (plan_in l.best) l.fn.work l.work;
  advice : IsAdviceFor (g.R.Relaxation.meanings (g.R.Relaxation.problem l.fn.problem)) l.fn.work.region (length l.advisors.items) l.advice;
  advisors : AreOnlyAsked l.fn.advisors.items l.advisors.items (λ b. (goal.Advisor-dyn g (b.vtable, b.value)).identity b.value)
      (λ b. (goal.Advisor-dyn g (b.vtable, b.value)).asked b.value)
      (λ b. (goal.Advisor-dyn g (b.vtable, b.value)).has_quit b.value) l.round;
  made : AreRounds (λ b. (goal.Advisor-dyn g (b.vtable, b.value)).has_quit b.value)
      (λ b. (goal.Advisor-dyn g (b.vtable, b.value)).has_answered b.value)
      (g.R.Relaxation.meanings (g.R.Relaxation.problem l.fn.problem)) l.round
      (record {
        advisors = l.fn.advisors.items;
        enough = replicate (length l.fn.advisors.items) false;
        best = plan_in l.fn.best;
        work = l.fn.work;
      }) (advice_state l.advisors.items l.advice (plan_in l.best) l.work);
  first : l.round ≡ 0 → (place : ℕ) → get_or l.advice.has_enough.items place false ≡ false;
  least : 1 ≤ l.round → is_open_work (plan_in l.best) l.work ≡ true →
      AreAsked l.fn.advisors.items l.advisors.items (λ b. (goal.Advisor-dyn g (b.vtable, b.value)).asked b.value)
      (λ b. (goal.Advisor-dyn g (b.vtable, b.value)).has_quit b.value) 1 l.round;
}
