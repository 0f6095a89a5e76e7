use Rattle.std.proofs.Common.{◌≡◌, ◌<◌, pos, ◌≤ℤ◌, arith, sym, subst, w64, rules}
use Rattle.std.proofs.lemmas.Int.{ints}
use mir.Val.{to_z, of_z}
use Rattle.advisors.proofs.Fitting.{still-fits}
use Rattle.advisors.proofs.proposal.Proposal.put.Goals.{else-value-lt0-via-then-value-lt0+else-index-self-2}
use Rattle.advisors.proofs.proposal.Proposal.put.Goals.{else-value-lt0-via-else-value-lt0}
use Rattle.advisors.proofs.proposal.Proposal.put.Goals as goal

not-negative : (c : goal.After-put) → c.args.index < c.self.inside.free_from → pos 0 ≤ℤ c.args.value
not-negative c low = elim c.else-value-lt0.branch [
  | else-value-lt0-via-then-value-lt0+else-index-self-2 w ↦ absurd (omega (arith, w.if-index-self-2, low))
  | else-value-lt0-via-else-value-lt0 w ↦ omega (arith, ints, w.if-value-lt0)
]

passed : (c : goal.After-put) → to_z w64 (of_z w64 c.args.value) ≡ c.args.value
passed c = omega (arith, ints)

pub invariant_of-self : goal.invariant_of-self
invariant_of-self c = still-fits c.put.result _ c.put.new.self c.args.index (to_z w64 (of_z w64 c.args.value)) c.self.invariant (omega (arith, c.if-index-self.false))
    (λ low. subst (λ value. pos 0 ≤ℤ value) (sym (passed c)) (not-negative c low))
    c.put.ensures.list c.put.ensures.multipliers c.put.ensures.unchanged

pub returns-clause-fit : goal.returns-clause-fit
returns-clause-fit c = invariant_of-self c

pub returns-clause-refusal : goal.returns-clause-refusal
returns-clause-refusal c = search rules
