use Rattle.std.proofs.Common.{◌≤ℤ◌, refl, sym, ◌∙◌, arith}
use Rattle.cert_check.specs.Reasons.{IsBelowCost}
use Rattle.cert_check.proofs.Bounding.{pass_at, skip_at, stop_at, not_below, not_both}
use Rattle.cert_check.proofs.heads.test_none_below.Goals as goal
use Rattle.cert_check.proofs.heads.test_none_below.Goals.{in-Some+else-is_below, in_default}

pub returns-then-is_below-clause-reason : goal.returns-then-is_below-clause-reason
returns-then-is_below-clause-reason c =
    stop_at (IsBelowCost c.args.cost.0) (λ bound. c.args.cost.0 ≤ℤ bound) c.args.tree.now c.loop-number.number c.node.result.now c.in-Some.bound _ (omega arith) c.node.ensures.value
    (sym c.bound.ensures ∙ c.in-Some.is) (refl, c.is_below.ensures.below.0 c.if-is_below.true) c.loop-number.invariant

pub loop-number-preserved : goal.loop-number-preserved
loop-number-preserved c = elim c.match-bound.branch [
  | in-Some+else-is_below w ↦ let above : c.args.cost.0 ≤ℤ w.in-Some.bound.0 = not_below w.in-Some.bound.0 c.args.cost.0 (sym w.is_below.ensures.value ∙ w.if-is_below.false) in
      pass_at (IsBelowCost c.args.cost.0) (λ bound. c.args.cost.0 ≤ℤ bound) c.args.tree.now c.loop-number.number c.node.result.now w.in-Some.bound (omega arith) c.node.ensures.value
      (sym c.bound.ensures ∙ w.in-Some.is) (λ reason fails. not_both c.args.cost.0 w.in-Some.bound.0 above fails.1) above c.loop-number.invariant
  | in_default w ↦ skip_at (IsBelowCost c.args.cost.0) (λ bound. c.args.cost.0 ≤ℤ bound) c.args.tree.now c.loop-number.number c.node.result.now (omega arith) c.node.ensures.value (sym c.bound.ensures ∙ w.in_default.is) c.loop-number.invariant
]
