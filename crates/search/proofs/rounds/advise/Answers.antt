use Rattle.std.proofs.Common.{◌≡◌, ℕ, ◌+◌, ◌≤◌, List, Bool, length, replicate, false, get_or, refl, sym, ap, subst, ◌∙◌, arith}
use Rattle.std.proofs.lemmas.Bool.{false≢true}
use Rattle.search.specs.NodeAdvice.{IsAdviceFor}
use Rattle.search.specs.Conclusions.{plan_in}
use Rattle.search.specs.NodesInWork.{IsWorkedOn}
use Rattle.search.specs.Rounds.{AreRounds, WereAskedInOrder, advice_state}
use Rattle.search.proofs.Asking.{asked_in_all, asked_once, each_asked, length-asked, may_be_asked_yet, none_enough}
use Rattle.search.proofs.Asking.{only_asked_again, only_asked_within, only_unasked}
use Rattle.search.proofs.Advising.{no_rounds, rounds_next, rounds_to}
use Rattle.search.proofs.Working.{advanced_on, not_advanced}
use Rattle.search.proofs.rounds.advise.Goals as goal

pub returns-in_err-advice-clause-advisors : goal.returns-in_err-advice-clause-advisors
returns-in_err-advice-clause-advisors g c = only_unasked _ _ _ c.args.rounds c.args.advisors.now.items

pub loop-round-init : goal.loop-round-init
loop-round-init g c =
    let problem = g.R.Relaxation.meanings (g.R.Relaxation.problem c.args.problem.now) in
    let count : c.len.result ≡ length c.args.advisors.now.items = omega (arith, c.len.ensures) in
    let none : c.in_ok-advice.advice.has_enough.items ≡ replicate (length c.args.advisors.now.items) false =
    c.in_ok-advice.ensures.none ∙ ap (λ (n : ℕ). replicate n false) count in
    record {
      same = refl;
      advances = not_advanced problem c.args.work.now.region (plan_in c.args.best.now) c.args.work.now c.requires.worked;
      advice = subst (λ (advisors : ℕ). IsAdviceFor problem c.args.work.now.region advisors c.in_ok-advice.advice) count
          (subst (λ sets. IsAdviceFor problem sets c.len.result c.in_ok-advice.advice) c.region.ensures c.in_ok-advice.ensures.advice);
      advisors = only_unasked _ _ _ 0 c.args.advisors.now.items;
      made = no_rounds (λ b. (goal.Advisor-dyn g (b.vtable, b.value)).has_quit b.value) (λ b. (goal.Advisor-dyn g (b.vtable, b.value)).has_answered b.value) problem c.args.advisors.now.items c.in_ok-advice.advice.has_enough.items (replicate (length c.args.advisors.now.items) false) (plan_in c.args.best.now) c.args.work.now none;
      first = λ zero_round place. ap (λ (flags : List Bool). get_or flags place false) none ∙ none_enough (length c.args.advisors.now.items) place;
      least = λ some left. absurd (omega (arith, some));
    }

pub make_round-requires-clause-worked : goal.make_round-requires-clause-worked
make_round-requires-clause-worked g c =
    subst (λ p. IsWorkedOn (g.R.Relaxation.meanings p) (plan_in c.loop-round.best) c.loop-round.work) (sym c.loop-round.invariant.same) c.loop-round.invariant.advances.worked

pub make_round-requires-clause-room : goal.make_round-requires-clause-room
make_round-requires-clause-room g c =
    may_be_asked_yet _ _ 0 c.loop-round.round 1 c.args.advisors.now.items c.loop-round.advisors.items
    (λ place none below. let few : c.loop-round.round + 1 ≤ c.args.rounds = omega (arith, c.loop-round-test.true) in omega (arith, c.requires.room place none below, few)) c.loop-round.invariant.advisors.times

pub make_round-requires-clause-advice : goal.make_round-requires-clause-advice
make_round-requires-clause-advice g c =
    let is : IsAdviceFor (g.R.Relaxation.meanings (g.R.Relaxation.problem c.loop-round.problem)) c.loop-round.work.region (length c.loop-round.advisors.items) c.loop-round.advice =
    subst (λ p. IsAdviceFor (g.R.Relaxation.meanings p) c.loop-round.work.region (length c.loop-round.advisors.items) c.loop-round.advice) (sym c.loop-round.invariant.same)
    (subst (λ sets. IsAdviceFor (g.R.Relaxation.meanings (g.R.Relaxation.problem c.args.problem.now)) sets (length c.loop-round.advisors.items) c.loop-round.advice) (sym c.loop-round.invariant.advances.region) c.loop-round.invariant.advice) in
    record { question = record { indices = is.question.indices; free_from = is.question.free_from; sizes = is.question.sizes }; each = is.each }

pub returns-in_err-make_round-clause-advisors : goal.returns-in_err-make_round-clause-advisors
returns-in_err-make_round-clause-advisors g c =
    only_asked_within _ _ _ (c.loop-round.round + 1) c.args.rounds c.args.advisors.now.items c.make_round.new.advisors.items (omega (arith, c.loop-round-test.true))
    (only_asked_again _ _ _ c.loop-round.round 1 c.args.advisors.now.items c.loop-round.advisors.items c.make_round.new.advisors.items c.loop-round.invariant.advisors c.make_round.ensures.advisors)

pub loop-round-preserved : goal.loop-round-preserved
loop-round-preserved g c =
    let p = g.R.Relaxation.problem c.args.problem.now in
    let problem = g.R.Relaxation.meanings p in
    let first = plan_in c.args.best.now in
    let before = plan_in c.loop-round.best in
    let after = plan_in c.make_round.new.best in
    let advisors = c.args.advisors.now.items in
    let now = c.loop-round.advisors.items in
    let later = c.make_round.new.advisors.items in
    let so_far = c.loop-round.invariant in
    let round = c.in_ok-make_round.ensures.round in
    let same : length later ≡ length now = length-asked _ _ 0 1 now later c.make_round.ensures.advisors.times in
    record {
      same = c.make_round.ensures.same ∙ so_far.same;
      advances = advanced_on g.R.Relaxation.meanings p (g.R.Relaxation.problem c.loop-round.problem) first before after c.args.work.now c.loop-round.work c.make_round.new.work so_far.same so_far.advances c.in_ok-make_round.ensures.advances;
      advice = subst (λ (count : ℕ). IsAdviceFor problem c.args.work.now.region count c.make_round.new.advice) (sym same)
          (subst (λ sets. IsAdviceFor problem sets (length now) c.make_round.new.advice) so_far.advances.region
          (subst (λ q. IsAdviceFor (g.R.Relaxation.meanings q) c.loop-round.work.region (length now) c.make_round.new.advice) so_far.same c.in_ok-make_round.ensures.advice));
      advisors = only_asked_again _ _ _ c.loop-round.round 1 advisors now later so_far.advisors c.make_round.ensures.advisors;
      made = rounds_next (λ b. (goal.Advisor-dyn g (b.vtable, b.value)).has_quit b.value) (λ b. (goal.Advisor-dyn g (b.vtable, b.value)).has_answered b.value) problem c.loop-round.round _ (advice_state now c.loop-round.advice before c.loop-round.work) (advice_state later c.make_round.new.advice after c.make_round.new.work) so_far.made
          (subst (λ q. WereAskedInOrder (λ b. (goal.Advisor-dyn g (b.vtable, b.value)).has_quit b.value) (λ b. (goal.Advisor-dyn g (b.vtable, b.value)).has_answered b.value) (g.R.Relaxation.meanings q) c.loop-round.round (length now) (advice_state now c.loop-round.advice before c.loop-round.work) (advice_state later c.make_round.new.advice after c.make_round.new.work))
          so_far.same round.in_order);
      first = λ none. absurd (omega (arith, none));
      least = λ some left. asked_once _ _ c.loop-round.round advisors now later so_far.advisors.times (λ more. so_far.least more (sym c.is_open.ensures ∙ c.if-not-is_open.false))
          (λ none. each_asked _ _ now later (λ place one below stays. round.each left place one below (so_far.first none place) stays) c.make_round.ensures.advisors.times) c.make_round.ensures.advisors.times;
    }

pub returns-clause-advisors : goal.returns-clause-advisors
returns-clause-advisors g c =
    only_asked_within _ _ _ c.loop-round.round c.args.rounds c.args.advisors.now.items c.loop-round.advisors.items (omega (arith, c.loop-round.auto.round-end)) c.loop-round.invariant.advisors

pub returns-then-not-is_open-clause-advisors : goal.returns-then-not-is_open-clause-advisors
returns-then-not-is_open-clause-advisors g c =
    only_asked_within _ _ _ c.loop-round.round c.args.rounds c.args.advisors.now.items c.loop-round.advisors.items (omega (arith, c.loop-round.auto.round-end)) c.loop-round.invariant.advisors

pub returns-clause-least : goal.returns-clause-least
returns-clause-least g c = λ left.
    asked_in_all _ _ c.args.rounds c.loop-round.round c.args.advisors.now.items c.loop-round.advisors.items (omega (arith, c.loop-round-test.false)) (omega (arith, c.loop-round.auto.round-end)) c.loop-round.invariant.advisors.times
    (λ some. c.loop-round.invariant.least some left)

pub returns-then-not-is_open-clause-least : goal.returns-then-not-is_open-clause-least
returns-then-not-is_open-clause-least g c = λ left. absurd (false≢true (sym c.if-not-is_open.true ∙ (c.is_open.ensures ∙ left)))

pub returns-clause-advised : goal.returns-clause-advised
returns-clause-advised g c =
    let all : c.loop-round.round ≡ c.args.rounds = omega (arith, c.loop-round-test.false, c.loop-round.auto.round-end) in (
      c.loop-round.advice.has_enough.items,
      subst (λ (rounds : ℕ). AreRounds (λ b. (goal.Advisor-dyn g (b.vtable, b.value)).has_quit b.value) (λ b. (goal.Advisor-dyn g (b.vtable, b.value)).has_answered b.value) (g.R.Relaxation.meanings (g.R.Relaxation.problem c.args.problem.now)) rounds
          (record { advisors = c.args.advisors.now.items; enough = replicate (length c.args.advisors.now.items) false; best = plan_in c.args.best.now; work = c.args.work.now })
          (advice_state c.loop-round.advisors.items c.loop-round.advice (plan_in c.loop-round.best) c.loop-round.work)) all c.loop-round.invariant.made,
    )

pub returns-then-not-is_open-clause-advised : goal.returns-then-not-is_open-clause-advised
returns-then-not-is_open-clause-advised g c = (
  c.loop-round.advice.has_enough.items,
  rounds_to (λ b. (goal.Advisor-dyn g (b.vtable, b.value)).has_quit b.value) (λ b. (goal.Advisor-dyn g (b.vtable, b.value)).has_answered b.value) (g.R.Relaxation.meanings (g.R.Relaxation.problem c.args.problem.now)) c.loop-round.round c.args.rounds _
      (advice_state c.loop-round.advisors.items c.loop-round.advice (plan_in c.loop-round.best) c.loop-round.work) (omega (arith, c.loop-round.auto.round-end)) (sym c.is_open.ensures ∙ c.if-not-is_open.true) c.loop-round.invariant.made,
)
