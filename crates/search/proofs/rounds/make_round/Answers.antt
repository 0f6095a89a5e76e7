use Rattle.std.proofs.Common.{◌≡◌, ℕ, Bool, ◌+◌, ◌<◌, ◌^◌, length, get_or, set, true, false, refl, sym, ap, subst, ◌∙◌, arith}
use Rattle.std.proofs.lemmas.Bool.{both_ways, false≢true, true≢false}
use Rattle.std.proofs.lemmas.List.{get_or_default, get_or_read, get_or-set_other, length-set}
use Rattle.search.specs.Conclusions.{plan_in}
use Rattle.search.specs.NodesInWork.{IsWorkedOn}
use Rattle.search.specs.Offers.{IsOffered}
use Rattle.search.specs.Rounds.{IsFollowed, WereAskedInOrder, advice_state}
use Rattle.search.proofs.Asking.{length-asked, only_unasked, still_alone, then_asked, then_asked_once, then_passed}
use Rattle.search.proofs.Advising.{asked_if_due, asked_next, asked_to, enough_is, passed, question_after, question_again, question_then}
use Rattle.search.proofs.Working.{advanced_on, not_advanced}
use Rattle.search.proofs.rounds.make_round.Goals as goal

pub loop-place-init : goal.loop-place-init
loop-place-init g c = record {
  same = refl;
  advances = not_advanced _ _ _ _ c.requires.worked;
  question = record { round = refl; sizes = refl; over = record { indices = refl; free_from = refl } };
  flags = c.requires.advice.each;
  enough = λ place from. refl;
  advisors = only_unasked _ _ _ 1 c.args.advisors.now.items;
  alone = λ place none flag. refl;
  later = λ place none from. refl;
  each = λ place none below flag stays. absurd (omega (arith, below));
  in_order = refl;
}

-- an advisor that has enough is passed over
pub loop-place-preserved-then-index : goal.loop-place-preserved-then-index
loop-place-preserved-then-index g c =
    let place = c.loop-place.place in
    let so_far = c.loop-place.invariant in
    let now = c.loop-place.advisors.items in
    let problem = g.R.Relaxation.meanings (g.R.Relaxation.problem c.args.problem.now) in
    let first = advice_state c.args.advisors.now.items c.args.advice.now (plan_in c.args.best.now) c.args.work.now in
    let state = advice_state now c.loop-place.advice (plan_in c.loop-place.best) c.loop-place.work in
    let has : get_or c.loop-place.advice.has_enough.items place false ≡ true =
    sym (get_or_default c.loop-place.advice.has_enough.items place c.index.result.now false (omega (arith, c.loop-place-test.true, c.len-place-end.ensures, so_far.flags))) ∙ (sym c.index.ensures ∙ c.if-index.true) in
    record {
      same = so_far.same;
      advances = so_far.advances;
      question = so_far.question;
      flags = so_far.flags;
      enough = λ other from. so_far.enough other (omega (arith, from));
      advisors = so_far.advisors;
      alone = so_far.alone;
      later = λ other none from. so_far.later other none (omega (arith, from));
      each = then_passed (λ b. (goal.Advisor-dyn g (b.vtable, b.value)).asked b.value) (λ b. (goal.Advisor-dyn g (b.vtable, b.value)).has_quit b.value) c.args.advice.now.has_enough.items place c.args.advisors.now.items now
          (λ other flag stays. both_ways (get_or c.args.advice.now.has_enough.items place false) flag (sym (so_far.enough place (omega arith)) ∙ has)) so_far.each;
      in_order = asked_next (λ b. (goal.Advisor-dyn g (b.vtable, b.value)).has_quit b.value) (λ b. (goal.Advisor-dyn g (b.vtable, b.value)).has_answered b.value) problem c.args.advice.now.question.shown.rounds_made place first state state so_far.in_order (passed _ _ _ _ _ _ (λ is. both_ways (get_or c.loop-place.advice.has_enough.items place false) is.more has));
    }

-- one that has quit is passed over
pub loop-place-preserved-then-did_quit : goal.loop-place-preserved-then-did_quit
loop-place-preserved-then-did_quit g c =
    let place = c.loop-place.place in
    let so_far = c.loop-place.invariant in
    let now = c.loop-place.advisors.items in
    let read = c.index-in-loop-place.result.now in
    let problem = g.R.Relaxation.meanings (g.R.Relaxation.problem c.args.problem.now) in
    let first = advice_state c.args.advisors.now.items c.args.advice.now (plan_in c.args.best.now) c.args.work.now in
    let state = advice_state now c.loop-place.advice (plan_in c.loop-place.best) c.loop-place.work in
    let same : length now ≡ length c.args.advisors.now.items = length-asked _ _ 0 1 c.args.advisors.now.items now so_far.advisors.times in
    let within : place < length now = omega (arith, c.loop-place-test.true, c.len-place-end.ensures, same) in
    record {
      same = so_far.same;
      advances = so_far.advances;
      question = so_far.question;
      flags = so_far.flags;
      enough = λ other from. so_far.enough other (omega (arith, from));
      advisors = so_far.advisors;
      alone = so_far.alone;
      later = λ other none from. so_far.later other none (omega (arith, from));
      each = then_passed (λ b. (goal.Advisor-dyn g (b.vtable, b.value)).asked b.value) (λ b. (goal.Advisor-dyn g (b.vtable, b.value)).has_quit b.value) c.args.advice.now.has_enough.items place c.args.advisors.now.items now
          (λ none flag stays. true≢false (sym c.if-did_quit.true ∙ (c.did_quit.ensures ∙ (ap (λ b. (goal.Advisor-dyn g (b.vtable, b.value)).has_quit b.value) (get_or_read now place read within c.index-in-loop-place.ensures none) ∙ stays)))) so_far.each;
      in_order = asked_next (λ b. (goal.Advisor-dyn g (b.vtable, b.value)).has_quit b.value) (λ b. (goal.Advisor-dyn g (b.vtable, b.value)).has_answered b.value) problem c.args.advice.now.question.shown.rounds_made place first state state so_far.in_order
          (passed _ _ _ _ _ _ (λ is. true≢false (sym c.if-did_quit.true ∙ (c.did_quit.ensures ∙ (ap (λ b. (goal.Advisor-dyn g (b.vtable, b.value)).has_quit b.value) c.index-in-loop-place.ensures ∙ is.stays read)))));
    }

pub take_advice-requires-clause-worked : goal.take_advice-requires-clause-worked
take_advice-requires-clause-worked g c =
    subst (λ p. IsWorkedOn (g.R.Relaxation.meanings p) (plan_in c.loop-place.best) c.loop-place.work) (sym c.loop-place.invariant.same) c.loop-place.invariant.advances.worked

pub take_advice-requires-clause-question : goal.take_advice-requires-clause-question
take_advice-requires-clause-question g c =
    question_again g.R.Relaxation.meanings _ _ _ _ _ _ c.loop-place.invariant.same c.loop-place.invariant.advances.region c.loop-place.invariant.question c.requires.advice.question

pub take_advice-requires-clause-ready : goal.take_advice-requires-clause-ready
take_advice-requires-clause-ready g c =
    let place = c.loop-place.place in
    let so_far = c.loop-place.invariant in
    let now = c.loop-place.advisors.items in
    let read = c.index-in-loop-place.result.now in
    let old = c.index_mut.result.now in
    let same : length now ≡ length c.args.advisors.now.items = length-asked _ _ 0 1 c.args.advisors.now.items now so_far.advisors.times in
    let within : place < length now = omega (arith, c.loop-place-test.true, c.len-place-end.ensures, same) in
    let here : old ≡ get_or now place old = c.index_mut.ensures.value in
    let is : read ≡ old = get_or_read now place read within c.index-in-loop-place.ensures old ∙ sym here in
    record {
      stays = subst (λ b. (goal.Advisor-dyn g (b.vtable, b.value)).has_quit b.value ≡ false) is (sym c.did_quit.ensures ∙ c.if-did_quit.false);
      room = subst (λ b. (goal.Advisor-dyn g (b.vtable, b.value)).asked b.value + 1 < 2 ^ 64) (sym (here ∙ so_far.later place old (omega arith)))
          (c.requires.room place old (omega (arith, c.loop-place-test.true, c.len-place-end.ensures)));
    }

pub returns-in_err-word-clause-advisors : goal.returns-in_err-word-clause-advisors
returns-in_err-word-clause-advisors g c =
    let place = c.loop-place.place in
    let so_far = c.loop-place.invariant in
    let now = c.loop-place.advisors.items in
    let read = c.index-in-loop-place.result.now in
    let old = c.index_mut.result.now in
    let same : length now ≡ length c.args.advisors.now.items = length-asked _ _ 0 1 c.args.advisors.now.items now so_far.advisors.times in
    let within : place < length now = omega (arith, c.loop-place-test.true, c.len-place-end.ensures, same) in
    let here : old ≡ get_or now place old = c.index_mut.ensures.value in
    let is : read ≡ old = get_or_read now place read within c.index-in-loop-place.ensures old ∙ sym here in
    then_asked _ _ _ place c.args.advisors.now.items now old c.take_advice.new.advisor within (so_far.later place old (omega arith)) here
    (subst (λ b. (goal.Advisor-dyn g (b.vtable, b.value)).has_quit b.value ≡ false) is (sym c.did_quit.ensures ∙ c.if-did_quit.false)) c.take_advice.ensures.once so_far.advisors

pub returns-in_err-word-clause-alone : goal.returns-in_err-word-clause-alone
returns-in_err-word-clause-alone g c =
    let flags = c.loop-place.advice.has_enough.items in
    let place = c.loop-place.place in
    let so_far = c.loop-place.invariant in
    let has_not : get_or flags place false ≡ false =
    sym (get_or_default flags place c.index.result.now false (omega (arith, c.loop-place-test.true, c.len-place-end.ensures, so_far.flags))) ∙ (sym c.index.ensures ∙ c.if-index.false) in
    still_alone (λ b. (goal.Advisor-dyn g (b.vtable, b.value)).asked b.value) (λ b. (goal.Advisor-dyn g (b.vtable, b.value)).has_quit b.value) c.args.advice.now.has_enough.items place c.args.advisors.now.items c.loop-place.advisors.items c.take_advice.new.advisor
    (sym (so_far.enough place (omega arith)) ∙ has_not) so_far.alone

pub loop-place-preserved : goal.loop-place-preserved
loop-place-preserved g c =
    let p = g.R.Relaxation.problem c.args.problem.now in
    let problem = g.R.Relaxation.meanings p in
    let first = plan_in c.args.best.now in
    let before = plan_in c.loop-place.best in
    let after = plan_in c.take_advice.new.best in
    let advisors = c.args.advisors.now.items in
    let flags = c.loop-place.advice.has_enough.items in
    let new = c.take_advice.new.advisor in
    let word = c.in_ok-word.word in
    let round : ℕ = c.args.advice.now.question.shown.rounds_made in
    let place = c.loop-place.place in
    let so_far = c.loop-place.invariant in
    let now = c.loop-place.advisors.items in
    let read = c.index-in-loop-place.result.now in
    let old = c.index_mut.result.now in
    let same : length now ≡ length c.args.advisors.now.items = length-asked _ _ 0 1 c.args.advisors.now.items now so_far.advisors.times in
    let within : place < length now = omega (arith, c.loop-place-test.true, c.len-place-end.ensures, same) in
    let here : old ≡ get_or now place old = c.index_mut.ensures.value in
    let is : read ≡ old = get_or_read now place read within c.index-in-loop-place.ensures old ∙ sym here in
    let stays = subst (λ b. (goal.Advisor-dyn g (b.vtable, b.value)).has_quit b.value ≡ false) is (sym c.did_quit.ensures ∙ c.if-did_quit.false) in
    let has_not : get_or flags place false ≡ false =
    sym (get_or_default flags place c.index.result.now false (omega (arith, c.loop-place-test.true, c.len-place-end.ensures, so_far.flags))) ∙ (sym c.index.ensures ∙ c.if-index.false) in
    record {
      same = c.take_advice.ensures.same ∙ so_far.same;
      advances = advanced_on g.R.Relaxation.meanings p (g.R.Relaxation.problem c.loop-place.problem) first before after c.args.work.now c.loop-place.work c.take_advice.new.work so_far.same so_far.advances c.in_ok-word.ensures.advances;
      question = question_then _ _ _ so_far.question c.take_advice.ensures.question;
      flags = length-set flags place _ ∙ so_far.flags;
      enough = λ other from. get_or-set_other flags place other _ false (λ e. omega (arith, e, from)) ∙ so_far.enough other (omega (arith, from));
      advisors = then_asked _ _ _ place advisors now old new within (so_far.later place old (omega arith)) here stays c.take_advice.ensures.once so_far.advisors;
      alone = still_alone (λ b. (goal.Advisor-dyn g (b.vtable, b.value)).asked b.value) (λ b. (goal.Advisor-dyn g (b.vtable, b.value)).has_quit b.value) c.args.advice.now.has_enough.items place advisors now new (sym (so_far.enough place (omega arith)) ∙ has_not) so_far.alone;
      later = λ other none from. get_or-set_other now place other new none (λ e. omega (arith, e, from)) ∙ so_far.later other none (omega (arith, from));
      each = then_asked_once (λ b. (goal.Advisor-dyn g (b.vtable, b.value)).asked b.value) (λ b. (goal.Advisor-dyn g (b.vtable, b.value)).has_quit b.value) c.args.advice.now.has_enough.items place advisors now old new within (λ none. so_far.later place none (omega arith)) here c.take_advice.ensures.once.once so_far.each;
      in_order = asked_next (λ b. (goal.Advisor-dyn g (b.vtable, b.value)).has_quit b.value) (λ b. (goal.Advisor-dyn g (b.vtable, b.value)).has_answered b.value) problem round place _ (advice_state now c.loop-place.advice before c.loop-place.work) _ so_far.in_order
          (asked_if_due _ _ _ _ _ _ _ (record {
            left_open = sym c.is_open.ensures ∙ c.if-not-is_open.false;
            more = has_not;
            stays = λ none. subst (λ b. (goal.Advisor-dyn g (b.vtable, b.value)).has_quit b.value ≡ false) (get_or_read now place old within here none) stays;
          }) (record {
            advisor = new;
            word = word;
            followed = subst (λ (n : ℕ). IsFollowed (λ b. (goal.Advisor-dyn g (b.vtable, b.value)).has_quit b.value) (λ b. (goal.Advisor-dyn g (b.vtable, b.value)).has_answered b.value) problem n new before after c.loop-place.work c.take_advice.new.work word) so_far.question.round
                (subst (λ q. IsFollowed (λ b. (goal.Advisor-dyn g (b.vtable, b.value)).has_quit b.value) (λ b. (goal.Advisor-dyn g (b.vtable, b.value)).has_answered b.value) (g.R.Relaxation.meanings q) c.loop-place.advice.question.shown.rounds_made new before after c.loop-place.work c.take_advice.new.work word) so_far.same c.in_ok-word.ensures.followed);
            advisors = refl;
            enough = ap (λ (flag : Bool). set flags place flag) (c.eq.ensures ∙ enough_is word);
            offered = subst (λ q. IsOffered (g.R.Relaxation.meanings q) c.loop-place.work.region before after) so_far.same c.in_ok-word.ensures.advances.offered;
          }));
    }

pub returns-then-not-is_open-clause-advice : goal.returns-then-not-is_open-clause-advice
returns-then-not-is_open-clause-advice g c = record {
  question = question_after _ _ _ _ c.loop-place.invariant.question c.requires.advice.question;
  each = c.loop-place.invariant.flags;
}

pub returns-clause-advice : goal.returns-clause-advice
returns-clause-advice g c = record {
  question = question_after _ _ _ _ c.loop-place.invariant.question c.requires.advice.question;
  each = c.loop-place.invariant.flags;
}

pub returns-then-not-is_open-clause-round : goal.returns-then-not-is_open-clause-round
returns-then-not-is_open-clause-round g c = record {
  in_order = asked_to (λ b. (goal.Advisor-dyn g (b.vtable, b.value)).has_quit b.value) (λ b. (goal.Advisor-dyn g (b.vtable, b.value)).has_answered b.value) (g.R.Relaxation.meanings (g.R.Relaxation.problem c.args.problem.now)) c.args.advice.now.question.shown.rounds_made c.loop-place.place (length c.args.advisors.now.items) _
      (advice_state c.loop-place.advisors.items c.loop-place.advice (plan_in c.loop-place.best) c.loop-place.work)
      (omega (arith, c.loop-place-test.true, c.len-place-end.ensures)) (sym c.is_open.ensures ∙ c.if-not-is_open.true) c.loop-place.invariant.in_order;
  each = λ left. absurd (false≢true (sym c.if-not-is_open.true ∙ (c.is_open.ensures ∙ left)));
}

pub returns-clause-round : goal.returns-clause-round
returns-clause-round g c =
    let all : c.loop-place.place ≡ length c.args.advisors.now.items = omega (arith, c.len-place-end.ensures, c.loop-place-test.false, c.loop-place.auto.place-end) in
    let first = advice_state c.args.advisors.now.items c.args.advice.now (plan_in c.args.best.now) c.args.work.now in
    let last = advice_state c.loop-place.advisors.items c.loop-place.advice (plan_in c.loop-place.best) c.loop-place.work in
    record {
      in_order = subst (λ (places : ℕ). WereAskedInOrder (λ b. (goal.Advisor-dyn g (b.vtable, b.value)).has_quit b.value) (λ b. (goal.Advisor-dyn g (b.vtable, b.value)).has_answered b.value) (g.R.Relaxation.meanings (g.R.Relaxation.problem c.args.problem.now)) c.args.advice.now.question.shown.rounds_made places first last) all c.loop-place.invariant.in_order;
      each = λ left place none below. c.loop-place.invariant.each place none (omega (arith, below, all));
    }

pub index-requires-in-loop-place : goal.index-requires-in-loop-place
index-requires-in-loop-place g c =
    let same : length c.loop-place.advisors.items ≡ length c.args.advisors.now.items = length-asked _ _ 0 1 c.args.advisors.now.items c.loop-place.advisors.items c.loop-place.invariant.advisors.times in
    omega (arith, c.loop-place-test.true, c.len-place-end.ensures)
