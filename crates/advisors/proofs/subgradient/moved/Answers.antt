use Rattle.std.proofs.Common.{◌≡◌, ◌≤◌, Bool, true, false, ℤ, pos, negsuc, neg_ℤ, ◌+ℤ◌, ◌*ℤ◌, ◌≤ℤ◌, unsigned_abs, sym}
use Rattle.std.proofs.Common.{◌∙◌, ap, arith, w64}
use Rattle.std.specs.Int.{w128}
use Rattle.std.proofs.lemmas.Int.{ints}
use mir.Val.{to_z, of_z}
use Rattle.rail_base.specs.declared.limits.TheConstants.{MAX_MULTIPLIER}
use Rattle.advisors.specs.MultiplierSteps.{least_value}
use Rattle.advisors.proofs.Saturating.{IsNarrow, brought, nearest, brought-exact}
use Rattle.advisors.proofs.subgradient.moved.Goals as goal
use Rattle.advisors.proofs.subgradient.moved.Goals.{then-may_be_negative, else-may_be_negative}

slack-passed : (c : goal.After-clamp) → to_z w128 (of_z w128 c.from.result) ≡ c.args.slack
slack-passed c = omega (arith, ints, c.from.ensures)

value-passed : (c : goal.After-clamp) → to_z w128 (of_z w128 c.from-2.result) ≡ c.args.value
value-passed c = omega (arith, ints, c.from-2.ensures)

step-passed : (c : goal.After-clamp) → to_z w128 (of_z w128 c.args.step) ≡ c.args.step
step-passed c = omega (arith, ints)

product : (c : goal.After-clamp) → to_z w128 (of_z w128 c.saturating_mul.result) ≡ nearest (c.args.step *ℤ c.args.slack)
product c =
    let kept : to_z w128 (of_z w128 c.saturating_mul.result) ≡ c.saturating_mul.result = omega (arith, ints) in
    kept ∙ c.saturating_mul.ensures ∙ ap (λ s. nearest (s *ℤ to_z w128 (of_z w128 c.from.result))) (step-passed c) ∙ ap (λ s. nearest (c.args.step *ℤ s)) (slack-passed c)

total : (c : goal.After-clamp) → to_z w128 (of_z w128 c.saturating_add-moved.result) ≡ nearest (nearest (c.args.step *ℤ c.args.slack) +ℤ c.args.value)
total c =
    let kept : to_z w128 (of_z w128 c.saturating_add-moved.result) ≡ c.saturating_add-moved.result = omega (arith, ints) in
    kept ∙ c.saturating_add-moved.ensures ∙ ap (λ p. nearest (p +ℤ to_z w128 (of_z w128 c.from-2.result))) (product c)
    ∙ ap (λ v. nearest (nearest (c.args.step *ℤ c.args.slack) +ℤ v)) (value-passed c)

least : (c : goal.After-clamp) → to_z w128 c.if-may_be_negative.least-bits ≡ least_value c.args.may_be_negative
least c = elim c.if-may_be_negative.branch [
  | then-may_be_negative w ↦ w.least-is ∙ sym (ap least_value w.if-may_be_negative.true)
  | else-may_be_negative w ↦ w.least-is ∙ sym (ap least_value w.if-may_be_negative.false)
]

narrow : (b : Bool) → IsNarrow (least_value b) MAX_MULTIPLIER
narrow true = record { small = omega arith; low = omega (arith, ints); order = omega (arith, ints) }
narrow false = record { small = omega arith; low = omega (arith, ints); order = omega (arith, ints) }

within : (value : ℤ) → unsigned_abs value ≤ MAX_MULTIPLIER → (neg_ℤ (pos MAX_MULTIPLIER) ≤ℤ value) × (value ≤ℤ pos MAX_MULTIPLIER)
within (pos n) small = (omega (arith, ints, small), omega (arith, ints, small))
within (negsuc n) small = (omega (arith, ints, small), omega (arith, ints, small))

-- what the last cast takes keeps within the limit, so that it is not changed
returned : (c : goal.After-clamp) → to_z w64 (of_z w64 (to_z w128 (of_z w128 c.clamp.result))) ≡ c.clamp.result
returned c =
    let low : neg_ℤ (pos MAX_MULTIPLIER) ≤ℤ to_z w128 c.if-may_be_negative.least-bits = omega (arith, ints, least c, (narrow c.args.may_be_negative).low) in
    omega (arith, ints, low, c.clamp.ensures.lower_bound, c.clamp.ensures.upper_bound)

pub returns : goal.returns
returns c =
    let near : (neg_ℤ (pos MAX_MULTIPLIER) ≤ℤ c.args.value) × (c.args.value ≤ℤ pos MAX_MULTIPLIER) = within c.args.value c.requires in
    returned c ∙ c.clamp.ensures.value ∙ ap (λ z. brought (to_z w128 c.if-may_be_negative.least-bits) (pos MAX_MULTIPLIER) z) (total c)
    ∙ ap (λ l. brought l (pos MAX_MULTIPLIER) (nearest (nearest (c.args.step *ℤ c.args.slack) +ℤ c.args.value))) (least c)
    ∙ brought-exact (least_value c.args.may_be_negative) (c.args.step *ℤ c.args.slack) c.args.value MAX_MULTIPLIER (narrow c.args.may_be_negative) near.0 near.1
