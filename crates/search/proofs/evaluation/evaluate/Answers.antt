use Rattle.std.proofs.Common.{◌≡◌, ap, Bool, Option, Some, None, List, [], inl, inr, sym, ◌∙◌, subst, refl, arith}
use Rattle.std.proofs.lemmas.Result.{IfOk-from_err}
use Rattle.branch_tree.specs.declared.multipliers.Entry.{Entry}
use Rattle.branch_tree.specs.declared.relaxation.Weight.TheVariants.{Cost}
use Rattle.branch_tree.specs.Bounds.{IsEmpty}
use Rattle.branch_tree.specs.Claims.{IsRay}
use Rattle.branch_tree.specs.Meanings.{DoFitFor}
use Rattle.search.specs.Conclusions.{plan_in}
use Rattle.search.specs.Evaluations.{HasNoRay, IsRayTest, IsSettledAs}
use Rattle.search.specs.Offers.{IsOffered}
use Rattle.search.proofs.Evaluating.{not_offered, evaluated, settled_unnamed, empty_unvalued}
use Rattle.search.proofs.evaluation.evaluate.Goals as goal
use Rattle.search.proofs.evaluation.evaluate.Goals.{else-len-gt0-via-then-len-gt0+in_ok-is_ray+else-branch, else-len-gt0-via-else-len-gt0}

pub returns-in_err-picks-clause-offered : goal.returns-in_err-picks-clause-offered
returns-in_err-picks-clause-offered g c = IfOk-from_err c.from_residual.result _ c.from_residual.ensures.0

pub returns-in_err-picks-clause-accepted : goal.returns-in_err-picks-clause-accepted
returns-in_err-picks-clause-accepted g c = IfOk-from_err c.from_residual.result _ c.from_residual.ensures.0

pub returns-in_err-picks-clause-outcome : goal.returns-in_err-picks-clause-outcome
returns-in_err-picks-clause-outcome g c = IfOk-from_err c.from_residual.result _ c.from_residual.ensures.0

pub bound-requires-clause-fit : goal.bound-requires-clause-fit
bound-requires-clause-fit g c = c.requires.fits

pub returns-in_default-clause-offered : goal.returns-in_default-clause-offered
returns-in_default-clause-offered g c = not_offered _ _ _

pub settle-requires-clause-accepted : goal.settle-requires-clause-accepted
settle-requires-clause-accepted g c = subst (λ problem. g.R.Relaxation.IsWellPosed problem) (sym c.bound.ensures.same) c.trips.ensures.accepted

pub settle-requires-clause-near : goal.settle-requires-clause-near
settle-requires-clause-near g c =
    subst (λ problem. (g.R.Relaxation.meanings problem).AreNear c.bound.new.best c.args.region.now) (sym c.bound.ensures.same) c.in-Value.ensures.bound.0.near

pub returns-in_err-named-clause-offered : goal.returns-in_err-named-clause-offered
returns-in_err-named-clause-offered g c = IfOk-from_err c.from_residual-in_err-named.result _ c.from_residual-in_err-named.ensures.0

pub returns-in_err-named-clause-accepted : goal.returns-in_err-named-clause-accepted
returns-in_err-named-clause-accepted g c = IfOk-from_err c.from_residual-in_err-named.result _ c.from_residual-in_err-named.ensures.0

pub returns-in_err-named-clause-outcome : goal.returns-in_err-named-clause-outcome
returns-in_err-named-clause-outcome g c = IfOk-from_err c.from_residual-in_err-named.result _ c.from_residual-in_err-named.ensures.0

pub returns-in-Some-clause-offered : goal.returns-in-Some-clause-offered
returns-in-Some-clause-offered g c =
    subst (λ problem. IsOffered (g.R.Relaxation.meanings problem) c.args.region.now (plan_in c.args.best.now) (plan_in c.settle.new.best))
    c.bound.ensures.same c.in_ok-named.ensures.offered

pub returns-in-Some-clause-outcome : goal.returns-in-Some-clause-outcome
returns-in-Some-clause-outcome g c =
    let settled =
    subst (λ problem. IsSettledAs (g.R.Relaxation.meanings problem) c.args.region.now (plan_in c.settle.new.best) c.bound.new.best (Some c.in-Some.named)) c.bound.ensures.same
    (subst (λ (found : Option (List Entry)). IsSettledAs (g.R.Relaxation.meanings (g.R.Relaxation.problem c.bound.new.self)) c.args.region.now
    (plan_in c.settle.new.best) c.bound.new.best found) c.in-Some.is c.in_ok-named.ensures.settled) in
    (settled.0, (c.bound.new.best, c.in-Value.ensures.bound.0, inl (settled.1, settled.2)))

pub is_ray-requires-clause-fits : goal.is_ray-requires-clause-fits
is_ray-requires-clause-fits g c =
    subst (λ problem. DoFitFor (g.R.Relaxation.meanings problem) c.args.multipliers) (sym (c.settle.ensures.same ∙ c.bound.ensures.same)) c.requires.fits

pub is_ray-requires-clause-some : goal.is_ray-requires-clause-some
is_ray-requires-clause-some g c = λ empty.
    subst (λ problem. IsEmpty (g.R.Relaxation.meanings problem) c.args.region.now) (c.settle.ensures.same ∙ c.bound.ensures.same) empty
    c.bound.new.best c.in-Value.ensures.bound.0.near

pub returns-in_err-is_ray-clause-offered : goal.returns-in_err-is_ray-clause-offered
returns-in_err-is_ray-clause-offered g c = IfOk-from_err c.from_residual-in_err-is_ray.result _ c.from_residual-in_err-is_ray.ensures.0

pub returns-in_err-is_ray-clause-accepted : goal.returns-in_err-is_ray-clause-accepted
returns-in_err-is_ray-clause-accepted g c = IfOk-from_err c.from_residual-in_err-is_ray.result _ c.from_residual-in_err-is_ray.ensures.0

pub returns-in_err-is_ray-clause-outcome : goal.returns-in_err-is_ray-clause-outcome
returns-in_err-is_ray-clause-outcome g c = IfOk-from_err c.from_residual-in_err-is_ray.result _ c.from_residual-in_err-is_ray.ensures.0

pub returns-then-branch-clause-offered : goal.returns-then-branch-clause-offered
returns-then-branch-clause-offered g c =
    subst (λ problem. IsOffered (g.R.Relaxation.meanings problem) c.args.region.now (plan_in c.args.best.now) (plan_in c.settle.new.best))
    c.bound.ensures.same c.in_ok-named.ensures.offered

pub returns-then-branch-clause-outcome : goal.returns-then-branch-clause-outcome
returns-then-branch-clause-outcome g c = (
  (
    c.requires.fits,
    subst (λ problem. IsRay (g.R.Relaxation.meanings problem) c.args.region.now c.args.multipliers) (c.settle.ensures.same ∙ c.bound.ensures.same)
        (subst (λ (found : Bool). IsRayTest (g.R.Relaxation.meanings (g.R.Relaxation.problem c.settle.new.problem)) c.args.region.now c.args.multipliers found)
        c.if-branch.true c.in_ok-is_ray.ensures.ray),
  ),
  (
    c.bound.new.best,
    c.in-Value.ensures.bound.0,
    inr (
      subst (λ problem. IsSettledAs (g.R.Relaxation.meanings problem) c.args.region.now (plan_in c.settle.new.best) c.bound.new.best None) c.bound.ensures.same
          (settled_unnamed _ _ _ _ c.in_ok-named.field-0 c.in_default-2.not-Some c.in_ok-named.ensures.settled),
      omega (arith, c.if-len-gt0.true, c.len.ensures.value),
      refl,
    ),
  ),
)

pub returns-clause-offered : goal.returns-clause-offered
returns-clause-offered g c =
    subst (λ problem. IsOffered (g.R.Relaxation.meanings problem) c.args.region.now (plan_in c.args.best.now) (plan_in c.settle.new.best))
    c.bound.ensures.same c.in_ok-named.ensures.offered

pub returns-clause-outcome : goal.returns-clause-outcome
returns-clause-outcome g c =
    let relaxation = g.met.R.Relaxation.relaxes (g.R.Relaxation.problem c.args.problem.now) c.trips.ensures.accepted in (
      evaluated _ relaxation c.args.region.now c.args.multipliers c.in-Value.value [] c.bound.new.best c.requires.fits c.in-Value.ensures.bound,
      refl,
      subst (λ problem. IsSettledAs (g.R.Relaxation.meanings problem) c.args.region.now (plan_in c.settle.new.best) c.bound.new.best None) c.bound.ensures.same
          (settled_unnamed _ _ _ _ c.in_ok-named.field-0 c.in_default-2.not-Some c.in_ok-named.ensures.settled),
      λ some. elim c.else-len-gt0.branch as (λ _. HasNoRay (g.R.Relaxation.meanings (g.R.Relaxation.problem c.args.problem.now)) c.args.region.now c.args.multipliers) [
        | else-len-gt0-via-then-len-gt0+in_ok-is_ray+else-branch w ↦
            subst (λ problem. HasNoRay (g.R.Relaxation.meanings problem) c.args.region.now c.args.multipliers) (c.settle.ensures.same ∙ c.bound.ensures.same)
            (subst (λ (found : Bool). IsRayTest (g.R.Relaxation.meanings (g.R.Relaxation.problem c.settle.new.problem)) c.args.region.now c.args.multipliers found) w.if-branch.false w.in_ok-is_ray.ensures.ray)
        | else-len-gt0-via-else-len-gt0 w ↦ absurd (omega (arith, w.if-len-gt0.false, c.len.ensures.value, some))
      ],
    )

pub returns-in_default-clause-accepted : goal.returns-in_default-clause-accepted
returns-in_default-clause-accepted g c = c.trips.ensures.accepted

pub returns-in-Some-clause-accepted : goal.returns-in-Some-clause-accepted
returns-in-Some-clause-accepted g c = c.trips.ensures.accepted

pub returns-then-branch-clause-accepted : goal.returns-then-branch-clause-accepted
returns-then-branch-clause-accepted g c = c.trips.ensures.accepted

pub returns-clause-accepted : goal.returns-clause-accepted
returns-clause-accepted g c = c.trips.ensures.accepted

pub returns-in_default-clause-same : goal.returns-in_default-clause-same
returns-in_default-clause-same g c = c.bound.ensures.same

pub returns-in_err-named-clause-same : goal.returns-in_err-named-clause-same
returns-in_err-named-clause-same g c = c.settle.ensures.same ∙ c.bound.ensures.same

pub returns-in-Some-clause-same : goal.returns-in-Some-clause-same
returns-in-Some-clause-same g c = c.settle.ensures.same ∙ c.bound.ensures.same

pub returns-in_err-is_ray-clause-same : goal.returns-in_err-is_ray-clause-same
returns-in_err-is_ray-clause-same g c = c.is_ray.ensures.same ∙ (c.settle.ensures.same ∙ c.bound.ensures.same)

pub returns-then-branch-clause-same : goal.returns-then-branch-clause-same
returns-then-branch-clause-same g c = c.is_ray.ensures.same ∙ (c.settle.ensures.same ∙ c.bound.ensures.same)

pub returns-clause-same : goal.returns-clause-same
returns-clause-same g c =
    let settled = c.settle.ensures.same ∙ c.bound.ensures.same in
    elim c.else-len-gt0.branch as (λ _. g.R.Relaxation.problem c.else-len-gt0.problem ≡ g.R.Relaxation.problem c.args.problem.now) [
      | else-len-gt0-via-then-len-gt0+in_ok-is_ray+else-branch w ↦ ap g.R.Relaxation.problem w.problem-is ∙ (w.is_ray.ensures.same ∙ settled)
      | else-len-gt0-via-else-len-gt0 w ↦ ap g.R.Relaxation.problem w.problem-is ∙ settled
    ]

pub returns-in_default-clause-outcome : goal.returns-in_default-clause-outcome
returns-in_default-clause-outcome g c =
    empty_unvalued (g.R.Relaxation.meanings (g.R.Relaxation.problem c.args.problem.now)) c.args.region.now c.args.multipliers Cost c.bound.result
    c.in_ok-picks.picks c.bound.new.best c.in_default.not-Value c.bound.ensures.bound
