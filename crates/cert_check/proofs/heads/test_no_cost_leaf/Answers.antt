use Rattle.std.proofs.Common.{[], is_some, refl, sym, ◌∙◌, ap, subst, arith}
use Rattle.std.proofs.lemmas.List.{drop_all}
use Rattle.std.proofs.lemmas.List.Elements.{All-nil}
use Rattle.branch_tree.specs.Trees.{bounds_of}
use Rattle.cert_check.specs.Reasons.{IsLeft}
use Rattle.cert_check.proofs.Bounding.{AreOnWay, HasBound, has_bound, no_bound, skip_at, stop_at, no_bounds}
use Rattle.cert_check.proofs.heads.test_no_cost_leaf.Goals as goal

pub returns-then-is_some-clause-reason : goal.returns-then-is_some-clause-reason
returns-then-is_some-clause-reason c =
    let some : HasBound c.node.result.now = has_bound c.node.result.now (ap is_some (sym c.bound.ensures) ∙ sym c.is_some.ensures ∙ c.if-is_some.true) in
    stop_at IsLeft (λ bound. ⊥) c.args.tree.now c.loop-number.number c.node.result.now some.bound _ (omega arith) c.node.ensures.value some.is refl c.loop-number.invariant

pub loop-number-preserved : goal.loop-number-preserved
loop-number-preserved c =
    skip_at IsLeft (λ bound. ⊥) c.args.tree.now c.loop-number.number c.node.result.now (omega arith) c.node.ensures.value
    (no_bound c.node.result.now (ap is_some (sym c.bound.ensures) ∙ sym c.is_some.ensures ∙ c.if-is_some.false)) c.loop-number.invariant

pub returns-clause-passed : goal.returns-clause-passed
returns-clause-passed c =
    let end : AreOnWay IsLeft (λ bound. ⊥) c.args.tree.now c.loop-number.number [] =
    subst (AreOnWay IsLeft (λ bound. ⊥) c.args.tree.now c.loop-number.number) (drop_all c.loop-number.number c.args.tree.now (omega arith)) c.loop-number.invariant in
    no_bounds (bounds_of c.args.tree.now) (end.each (All-nil (λ bound. ⊥)))
