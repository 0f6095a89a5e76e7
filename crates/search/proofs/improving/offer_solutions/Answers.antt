use Rattle.std.proofs.Common.{◌∙◌, subst}
use Rattle.search.specs.Conclusions.{plan_in}
use Rattle.search.specs.Improvements.{IsProposed}
use Rattle.search.specs.Offers.{IsOffered}
use Rattle.search.proofs.Evaluating.{offered_again}
use Rattle.search.proofs.Offering.{proposed_to}
use Rattle.search.proofs.improving.offer_solutions.Goals as goal

pub loop-place-preserved : goal.loop-place-preserved
loop-place-preserved g c =
    let problem = g.R.Relaxation.meanings (g.R.Relaxation.problem c.args.problem.now) in
    let root = c.args.root.now in
    let first = plan_in c.args.best.now in
    let before = plan_in c.loop-place.best in
    let after = plan_in c.offer_solution.new.best in
    record {
      same = c.offer_solution.ensures.same ∙ c.loop-place.invariant.same;
      offered = offered_again problem root first before after c.loop-place.invariant.offered
          (subst (λ p. IsOffered (g.R.Relaxation.meanings p) root before after) c.loop-place.invariant.same c.in_ok-offer_solution.ensures.offered);
      proposed = proposed_to problem root c.args.proposed.now c.loop-place.place c.index-proposed-place.result first before after c.loop-place-test.true c.index-proposed-place.is c.loop-place.invariant.proposed
          (subst (λ p. IsProposed (g.R.Relaxation.meanings p) root c.index-proposed-place.result before after) c.loop-place.invariant.same c.in_ok-offer_solution.ensures.proposed);
    }
