use Rattle.std.proofs.Common.{◌≡◌, ◌+◌, refl, sym, ◌∙◌, subst}
use Rattle.search.specs.Conclusions.{plan_in}
use Rattle.search.specs.Improvements.{IsUsedUp}
use Rattle.search.specs.Nodes.{IsSubregion}
use Rattle.search.specs.NodesInWork.{IsWorkedOn}
use Rattle.search.proofs.Offering.{improved_next}
use Rattle.search.proofs.Working.{advanced_within, not_advanced}
use Rattle.search.proofs.improving.improve.Goals as goal

pub loop-made-init : goal.loop-made-init
loop-made-init g c = record { same = refl; advances = not_advanced _ _ _ _ c.requires.worked; improved = (refl, refl) }

pub take_improvement-requires-clause-within : goal.take_improvement-requires-clause-within
take_improvement-requires-clause-within g c = subst (λ sets. IsSubregion c.args.terms.now.root.now sets) (sym c.loop-made.invariant.advances.region) c.requires.within

pub take_improvement-requires-clause-worked : goal.take_improvement-requires-clause-worked
take_improvement-requires-clause-worked g c =
    subst (λ p. IsWorkedOn (g.R.Relaxation.meanings p) (plan_in c.loop-made.best) c.loop-made.work) (sym (c.ask.ensures ∙ c.loop-made.invariant.same)) c.loop-made.invariant.advances.worked

pub loop-made-preserved : goal.loop-made-preserved
loop-made-preserved g c =
    let p = g.R.Relaxation.problem c.args.problem.now in
    let root = c.args.terms.now.root.now in
    let first = plan_in c.args.best.now in
    let before = plan_in c.loop-made.best in
    let after = plan_in c.take_improvement.new.best in
    let whole : g.R.Relaxation.problem c.ask.new.problem ≡ p = c.ask.ensures ∙ c.loop-made.invariant.same in
    record {
      same = c.take_improvement.ensures.same ∙ whole;
      advances = advanced_within g.R.Relaxation.meanings p (g.R.Relaxation.problem c.ask.new.problem) root root first before after c.args.work.now c.loop-made.work c.take_improvement.new.self whole (λ picks inside. inside)
          c.loop-made.invariant.advances c.in_ok-take_improvement.ensures.advances;
      improved = improved_next (g.R.Relaxation.meanings p) root c.loop-made.made c.in_ok-reply.reply.improvement first before after c.args.work.now c.loop-made.work c.take_improvement.new.self
          c.loop-made.invariant.improved (sym c.is_open.ensures ∙ c.if-not-is_open.false)
          (subst (λ p. IsUsedUp (g.R.Relaxation.meanings p) root c.in_ok-reply.reply.improvement before after c.loop-made.work c.take_improvement.new.self) whole c.in_ok-take_improvement.ensures.used);
    }

pub returns-then-not-more-clause-advances : goal.returns-then-not-more-clause-advances
returns-then-not-more-clause-advances g c =
    advanced_within g.R.Relaxation.meanings (g.R.Relaxation.problem c.args.problem.now) (g.R.Relaxation.problem c.ask.new.problem) c.args.terms.now.root.now c.args.terms.now.root.now
    (plan_in c.args.best.now) (plan_in c.loop-made.best) (plan_in c.take_improvement.new.best) c.args.work.now c.loop-made.work c.take_improvement.new.self
    (c.ask.ensures ∙ c.loop-made.invariant.same) (λ picks inside. inside) c.loop-made.invariant.advances c.in_ok-take_improvement.ensures.advances

pub returns-then-not-more-clause-improved : goal.returns-then-not-more-clause-improved
returns-then-not-more-clause-improved g c =
    let problem = g.R.Relaxation.meanings (g.R.Relaxation.problem c.args.problem.now) in
    let root = c.args.terms.now.root.now in
    let before = plan_in c.loop-made.best in
    let after = plan_in c.take_improvement.new.best in (
      c.loop-made.made + 1,
      improved_next problem root c.loop-made.made c.in_ok-reply.reply.improvement (plan_in c.args.best.now) before after c.args.work.now c.loop-made.work c.take_improvement.new.self
          c.loop-made.invariant.improved (sym c.is_open.ensures ∙ c.if-not-is_open.false)
          (subst (λ p. IsUsedUp (g.R.Relaxation.meanings p) root c.in_ok-reply.reply.improvement before after c.loop-made.work c.take_improvement.new.self) (c.ask.ensures ∙ c.loop-made.invariant.same)
          c.in_ok-take_improvement.ensures.used),
    )
