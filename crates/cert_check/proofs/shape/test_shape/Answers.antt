use Rattle.std.proofs.Common.{◌≡◌, ◌+◌, ◌-◌, ℕ, inl, inr, refl, sym, ◌∙◌, ap, subst, arith}
use Rattle.branch_tree.specs.Trees.{cut_of}
use Rattle.cert_check.proofs.Shapes.{IsOpenAfter, below, shape_begins, shape_goes_on, is_missing, is_whole}
use Rattle.cert_check.proofs.Shapes.{is_after_tree}
use Rattle.cert_check.proofs.shape.test_shape.Goals as goal
use Rattle.cert_check.proofs.shape.test_shape.Goals.{in-Some, in-None}

pub loop-number-init : goal.loop-number-init
loop-number-init c = shape_begins c.args.tree.now

pub returns-then-missing-eq0-clause-reason : goal.returns-then-missing-eq0-clause-reason
returns-then-missing-eq0-clause-reason c =
    (c.loop-number.number, refl, inl (is_after_tree c.args.tree.now c.loop-number.number (omega arith) (subst (IsOpenAfter c.args.tree.now c.loop-number.number) c.if-missing-eq0.true c.loop-number.invariant)))

pub returns-then-missing-gt0-clause-reason : goal.returns-then-missing-gt0-clause-reason
returns-then-missing-gt0-clause-reason c =
    let left : ℕ = c.loop-number.missing - 1 in
    let some : c.loop-number.missing ≡ left + 1 = omega arith in (
      c.len.result,
      refl,
      inr (
        c.len.ensures.value,
        (is_missing c.args.tree.now c.loop-number.number left (omega arith)
            (subst (IsOpenAfter c.args.tree.now c.loop-number.number) some c.loop-number.invariant)).1,
      ),
    )

pub loop-number-preserved : goal.loop-number-preserved
loop-number-preserved c =
    let left : ℕ = c.loop-number.missing - 1 in
    let some : c.loop-number.missing ≡ left + 1 = omega arith in
    let after : IsOpenAfter c.args.tree.now c.loop-number.number (left + 1) = subst (IsOpenAfter c.args.tree.now c.loop-number.number) some c.loop-number.invariant in
    elim c.match-cut.branch [
      | in-Some w ↦ let cut : below (cut_of c.node.result.now) ≡ 2 = ap below (sym c.cut.ensures ∙ w.in-Some.is) in
          shape_goes_on c.args.tree.now c.loop-number.number left c.match-cut.missing c.node.result.now (omega arith) c.node.ensures.value after (omega (arith, w.missing-is)) (omega (arith, w.missing-is))
      | in-None w ↦ let cut : below (cut_of c.node.result.now) ≡ 0 = ap below (sym c.cut.ensures ∙ w.in-None.is) in
          shape_goes_on c.args.tree.now c.loop-number.number left c.match-cut.missing c.node.result.now (omega arith) c.node.ensures.value after (omega (arith, w.missing-is)) (omega (arith, w.missing-is))
    ]

pub returns-clause-whole : goal.returns-clause-whole
returns-clause-whole c = is_whole c.args.tree.now c.loop-number.number (omega arith) (subst (IsOpenAfter c.args.tree.now c.loop-number.number) (omega arith) c.loop-number.invariant)
