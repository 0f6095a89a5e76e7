-- One value more is out.
use Rattle.std.proofs.Common.{◌≡◌, ℕ, ◌+◌, ◌<◌, List, length, set, pos, ℤ, ◌∙◌, subst, sym, arith, inl, inr, length-set}
use Rattle.std.proofs.lemmas.Bool.{cases_eq}
use Rattle.std.proofs.lemmas.List.{get_or-set_same, get_or-set_other}
use Rattle.price_bound.specs.PassValues.{no_sum, value_at}
use Rattle.price_bound.proofs.passes.clear.Goals as goal

one_more : (values : List ℤ) (place : ℕ) → place < length values → ((k : ℕ) → k < place → value_at values k ≡ no_sum)
    → (k : ℕ) → k < place + 1 → value_at (set values place no_sum) k ≡ no_sum
one_more values place below done k under = elim (cases_eq k place) [
  | inl same ↦ subst (λ (n : ℕ). value_at (set values place no_sum) n ≡ no_sum) (sym same) (get_or-set_same values place no_sum (pos 0) below)
  | inr differ ↦ get_or-set_other values place k no_sum (pos 0) differ ∙ done k (omega (arith, under, differ))
]

pub loop-place-preserved : goal.loop-place-preserved
loop-place-preserved c = record {
  long = length-set c.loop-place.sums c.loop-place.place no_sum ∙ c.loop-place.invariant.long;
  none = one_more c.loop-place.sums c.loop-place.place (omega (arith, c.loop-place-test.true, c.loop-place.invariant.long)) c.loop-place.invariant.none;
}
