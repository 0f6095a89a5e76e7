use Rattle.std.proofs.Common.{refl, ap, subst, sym, ◌∙◌, rules}
use Rattle.std.proofs.lemmas.Bool.{true≢false}
use Rattle.search.specs.Conclusions.{plan_in}
use Rattle.search.specs.NodesInWork.{Advances, IsTakenUp, IsWorkedOn}
use Rattle.search.proofs.Advising.{stays_on}
use Rattle.search.proofs.Working.{not_advanced}
use Rattle.search.proofs.rounds.take_advice.Goals as goal

pub take_up-requires-clause-indices : goal.take_up-requires-clause-indices
take_up-requires-clause-indices g c =
    c.ask.ensures.question.over.indices ∙ (c.requires.question.indices ∙ ap (λ p. (g.R.Relaxation.meanings p).indices) (sym c.ask.ensures.same))

pub take_up-requires-clause-free_from : goal.take_up-requires-clause-free_from
take_up-requires-clause-free_from g c =
    c.ask.ensures.question.over.free_from ∙ (c.requires.question.free_from ∙ ap (λ p. (g.R.Relaxation.meanings p).free_from) (sym c.ask.ensures.same))

pub take_up-requires-clause-worked : goal.take_up-requires-clause-worked
take_up-requires-clause-worked g c =
    subst (λ p. IsWorkedOn (g.R.Relaxation.meanings p) (plan_in c.args.best.now) c.args.work.now) (sym c.ask.ensures.same) c.requires.worked

pub returns-in_ok-take_up-clause-advances : goal.returns-in_ok-take_up-clause-advances
returns-in_ok-take_up-clause-advances g c =
    subst (λ p. Advances (g.R.Relaxation.meanings p) c.args.work.now.region (plan_in c.args.best.now) (plan_in c.take_up.new.best) c.args.work.now c.take_up.new.self) c.ask.ensures.same c.in_ok-take_up.ensures.advances

pub returns-else-ne-clause-advances : goal.returns-else-ne-clause-advances
returns-else-ne-clause-advances g c = not_advanced _ _ _ _ c.requires.worked

pub returns-in_ok-take_up-clause-followed : goal.returns-in_ok-take_up-clause-followed
returns-in_ok-take_up-clause-followed g c = record {
  proposal = c.ask.new.question.proposal;
  answered = c.in_ok-word.ensures.answered;
  used = record {
    taken_up = λ stays. subst (λ p. IsTakenUp (g.R.Relaxation.meanings p) (plan_in c.args.best.now) (plan_in c.take_up.new.best) c.ask.new.question.proposal c.args.work.now c.take_up.new.self) c.ask.ensures.same c.in_ok-take_up.ensures.taken_up;
    left = λ quit. absurd (true≢false (sym quit ∙ (c.in_ok-word.ensures.quit ∙ stays_on c.in_ok-word.word (sym c.ne.ensures ∙ c.if-ne.true))));
  };
}

pub returns-else-ne-clause-followed : goal.returns-else-ne-clause-followed
returns-else-ne-clause-followed g c = record {
  proposal = c.ask.new.question.proposal;
  answered = c.in_ok-word.ensures.answered;
  used = record {
    taken_up = λ stays. search rules;
    left = λ quit. (refl, refl);
  };
}
