use Rattle.std.proofs.Common.{◌≡◌, ◌+◌, ◌-◌, ℕ, length, inl, inr, refl, ap, subst, arith}
use Rattle.fleet_check.proofs.Shapes.{IsOpenAfter, below, shape_begins, shape_goes_on, is_after_tree, is_missing, is_whole}
use Rattle.fleet_check.proofs.shape.test_shape.Goals as goal
use Rattle.fleet_check.proofs.shape.test_shape.Goals.{in-Split, in-Bound, in-Nothing}

pub loop-number-init : goal.loop-number-init
loop-number-init c = shape_begins c.args.nodes.now

pub returns-then-missing-eq0-clause-stops : goal.returns-then-missing-eq0-clause-stops
returns-then-missing-eq0-clause-stops c =
    inl (
      c.loop-number.number,
      refl,
      inl (is_after_tree c.args.nodes.now c.loop-number.number c.loop-number-test.true
          (subst (IsOpenAfter c.args.nodes.now c.loop-number.number) c.if-missing-eq0.true c.loop-number.invariant)),
    )

pub returns-then-missing-gt0-clause-stops : goal.returns-then-missing-gt0-clause-stops
returns-then-missing-gt0-clause-stops c =
    let left : ℕ = c.loop-number.missing - 1 in
    let some : c.loop-number.missing ≡ left + 1 = omega (arith, c.if-missing-gt0.true) in
    let all : c.loop-number.number ≡ length c.args.nodes.now = omega (arith, c.loop-number-test.false, c.loop-number.auto.number-end) in
    inl (
      length c.args.nodes.now,
      refl,
      inr (is_missing c.args.nodes.now c.loop-number.number left all
          (subst (IsOpenAfter c.args.nodes.now c.loop-number.number) some c.loop-number.invariant)),
    )

pub loop-number-preserved : goal.loop-number-preserved
loop-number-preserved c =
    let left : ℕ = c.loop-number.missing - 1 in
    let some : c.loop-number.missing ≡ left + 1 = omega (arith, c.if-missing-eq0.false) in
    let after : IsOpenAfter c.args.nodes.now c.loop-number.number (left + 1) = subst (IsOpenAfter c.args.nodes.now c.loop-number.number) some c.loop-number.invariant in
    elim c.match-nodes-number.branch [
      | in-Split w ↦ let cut : below c.index-nodes-number.result ≡ 2 = ap below w.in-Split.is in
          shape_goes_on c.args.nodes.now c.loop-number.number left c.match-nodes-number.missing c.index-nodes-number.result c.loop-number-test.true c.index-nodes-number.is after
          (omega (arith, cut, some, w.missing-is)) (omega (arith, some, w.missing-is))
      | in-Bound w ↦ let cut : below c.index-nodes-number.result ≡ 0 = ap below w.in-Bound.is in
          shape_goes_on c.args.nodes.now c.loop-number.number left c.match-nodes-number.missing c.index-nodes-number.result c.loop-number-test.true c.index-nodes-number.is after
          (omega (arith, cut, some, w.missing-is)) (omega (arith, some, w.missing-is))
      | in-Nothing w ↦ let cut : below c.index-nodes-number.result ≡ 0 = ap below w.in-Nothing.is in
          shape_goes_on c.args.nodes.now c.loop-number.number left c.match-nodes-number.missing c.index-nodes-number.result c.loop-number-test.true c.index-nodes-number.is after
          (omega (arith, cut, some, w.missing-is)) (omega (arith, some, w.missing-is))
    ]

pub returns-clause-whole : goal.returns-clause-whole
returns-clause-whole c =
    let none : c.loop-number.missing ≡ 0 = omega (arith, c.if-missing-gt0.false) in
    is_whole c.args.nodes.now c.loop-number.number (omega (arith, c.loop-number-test.false, c.loop-number.auto.number-end))
    (subst (IsOpenAfter c.args.nodes.now c.loop-number.number) none c.loop-number.invariant)
