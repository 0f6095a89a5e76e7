use Rattle.std.proofs.Common.{Bool, sym, subst}
use Rattle.std.proofs.lemmas.Result.{IfOk-from_err}
use Rattle.branch_tree.specs.Bounds.{IsEmpty}
use Rattle.branch_tree.specs.Claims.{IsRay}
use Rattle.branch_tree.specs.Meanings.{DoFitFor}
use Rattle.search.specs.Conclusions.{plan_in}
use Rattle.search.specs.Evaluations.{HasNoRay, IsRayTest}
use Rattle.search.proofs.Evaluating.{not_offered, passed_unit, passed_fits, left_open_by_passed, named_broken}
use Rattle.search.proofs.evaluation.settle.Goals as goal

pub settle-requires : goal.settle-requires
settle-requires g c =
    (g.met.R.Relaxation.relaxes (g.R.Relaxation.problem c.args.problem.now) c.requires.accepted).near_follow c.args.picks.now c.args.region.now c.requires.near

pub single-requires : goal.single-requires
single-requires g c = passed_unit _ _ _ c.in-Broken.sign c.in-Broken.ensures.settled

pub returns-in_err-named-in-Broken-clause-offered : goal.returns-in_err-named-in-Broken-clause-offered
returns-in_err-named-in-Broken-clause-offered g c = IfOk-from_err c.from_residual-in_err-named-in-Broken.result _ c.from_residual-in_err-named-in-Broken.ensures.0

pub returns-in_err-named-in-Broken-clause-settled : goal.returns-in_err-named-in-Broken-clause-settled
returns-in_err-named-in-Broken-clause-settled g c = IfOk-from_err c.from_residual-in_err-named-in-Broken.result _ c.from_residual-in_err-named-in-Broken.ensures.0

pub is_ray-requires-clause-fits : goal.is_ray-requires-clause-fits
is_ray-requires-clause-fits g c =
    let relaxation = g.met.R.Relaxation.relaxes (g.R.Relaxation.problem c.args.problem.now) c.requires.accepted in
    subst (λ problem. DoFitFor (g.R.Relaxation.meanings problem) c.in_ok-named-in-Broken.named) (sym c.settle.ensures.same)
    (passed_fits _ relaxation c.args.picks.now c.in-Broken.index c.in-Broken.sign _
    (relaxation.near_follow c.args.picks.now c.args.region.now c.requires.near) c.in-Broken.ensures.settled c.in_ok-named-in-Broken.ensures)

pub is_ray-requires-clause-some : goal.is_ray-requires-clause-some
is_ray-requires-clause-some g c = λ empty.
    subst (λ problem. IsEmpty (g.R.Relaxation.meanings problem) c.args.region.now) c.settle.ensures.same empty c.args.picks.now c.requires.near

pub returns-in_err-is_ray-in-Broken-clause-offered : goal.returns-in_err-is_ray-in-Broken-clause-offered
returns-in_err-is_ray-in-Broken-clause-offered g c = IfOk-from_err c.from_residual-in_err-is_ray-in-Broken.result _ c.from_residual-in_err-is_ray-in-Broken.ensures.0

pub returns-in_err-is_ray-in-Broken-clause-settled : goal.returns-in_err-is_ray-in-Broken-clause-settled
returns-in_err-is_ray-in-Broken-clause-settled g c = IfOk-from_err c.from_residual-in_err-is_ray-in-Broken.result _ c.from_residual-in_err-is_ray-in-Broken.ensures.0

pub returns-then-branch-clause-offered : goal.returns-then-branch-clause-offered
returns-then-branch-clause-offered g c = not_offered _ _ _

pub returns-then-branch-clause-settled : goal.returns-then-branch-clause-settled
returns-then-branch-clause-settled g c =
    let relaxation = g.met.R.Relaxation.relaxes (g.R.Relaxation.problem c.args.problem.now) c.requires.accepted in (
      (
        passed_fits _ relaxation c.args.picks.now c.in-Broken.index c.in-Broken.sign _
            (relaxation.near_follow c.args.picks.now c.args.region.now c.requires.near) c.in-Broken.ensures.settled c.in_ok-named-in-Broken.ensures,
        subst (λ problem. IsRay (g.R.Relaxation.meanings problem) c.args.region.now c.in_ok-named-in-Broken.named) c.settle.ensures.same
            (subst (λ (found : Bool). IsRayTest (g.R.Relaxation.meanings (g.R.Relaxation.problem c.settle.new.self)) c.args.region.now c.in_ok-named-in-Broken.named found)
            c.if-branch.true c.in_ok-is_ray-in-Broken.ensures.ray),
      ),
      c.in-Broken.ensures.settled.0,
      named_broken _ c.args.picks.now c.in-Broken.index c.in-Broken.sign _ c.in-Broken.ensures.settled c.in_ok-named-in-Broken.ensures,
    )

pub returns-else-branch-clause-offered : goal.returns-else-branch-clause-offered
returns-else-branch-clause-offered g c = not_offered _ _ _

pub returns-else-branch-clause-settled : goal.returns-else-branch-clause-settled
returns-else-branch-clause-settled g c =
    left_open_by_passed _ c.args.region.now (plan_in c.args.best.now) c.args.picks.now c.in-Broken.index c.in-Broken.sign c.in_ok-named-in-Broken.named
    c.in-Broken.ensures.settled c.in_ok-named-in-Broken.ensures
    (subst (λ problem. HasNoRay (g.R.Relaxation.meanings problem) c.args.region.now c.in_ok-named-in-Broken.named) c.settle.ensures.same
    (subst (λ (found : Bool). IsRayTest (g.R.Relaxation.meanings (g.R.Relaxation.problem c.settle.new.self)) c.args.region.now c.in_ok-named-in-Broken.named found)
    c.if-branch.false c.in_ok-is_ray-in-Broken.ensures.ray))
