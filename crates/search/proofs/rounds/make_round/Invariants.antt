use Rattle.std.proofs.Common.{◌≡◌, ℕ, ◌≤◌, false, length, get_or}
use Rattle.search.specs.Questions.{AreDueAskedOnce, AreLeftAlone, AreOnlyAsked}
use Rattle.search.specs.NodeAdvice.{MayBePutAgain}
use Rattle.search.specs.Conclusions.{plan_in}
use Rattle.search.specs.NodesInWork.{Advances}
use Rattle.search.specs.Rounds.{WereAskedInOrder, advice_state}
use Rattle.search.proofs.Asking.{AreNotYetAsked}
use Rattle.search.proofs.rounds.make_round.Given as goal

abbrev pub invariant-loop-place : goal.invariant-loop-place
invariant-loop-place g l = record {
  same : g.R.Relaxation.problem l.problem ≡ g.R.Relaxation.problem l.fn.problem;
  advances : Advances (g.R.Relaxation.meanings (g.R.Relaxation.problem l.fn.problem)) l.fn.work.region (plan_in l.fn.best) (plan_in l.best) l.fn.work l.work;
  question : MayBePutAgain l.fn.advice.question l.advice.question;
  flags : length l.advice.has_enough.items ≡ length l.fn.advisors.items;
  enough : (place : ℕ) → l.place ≤ place → get_or l.advice.has_enough.items place false ≡ get_or l.fn.advice.has_enough.items place false;
  advisors : AreOnlyAsked l.fn.advisors.items l.advisors.items (λ b. (goal.Advisor-dyn g (b.vtable, b.value)).identity b.value)
      (λ b. (goal.Advisor-dyn g (b.vtable, b.value)).asked b.value)
      (λ b. (goal.Advisor-dyn g (b.vtable, b.value)).has_quit b.value) 1;
  alone : AreLeftAlone l.fn.advisors.items l.advisors.items l.fn.advice.has_enough.items;
  later : AreNotYetAsked l.fn.advisors.items l.advisors.items l.place;
  each : AreDueAskedOnce l.fn.advisors.items l.advisors.items (λ b. (goal.Advisor-dyn g (b.vtable, b.value)).asked b.value)
      (λ b. (goal.Advisor-dyn g (b.vtable, b.value)).has_quit b.value) l.fn.advice.has_enough.items l.place;
  in_order : WereAskedInOrder (λ b. (goal.Advisor-dyn g (b.vtable, b.value)).has_quit b.value)
      (λ b. (goal.Advisor-dyn g (b.vtable, b.value)).has_answered b.value)
      (g.R.Relaxation.meanings (g.R.Relaxation.problem l.fn.problem)) l.fn.advice.question.shown.rounds_made l.place
      (advice_state l.fn.advisors.items l.fn.advice (plan_in l.fn.best) l.fn.work) (advice_state l.advisors.items l.advice (plan_in l.best) l.work);
}
