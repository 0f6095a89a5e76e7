-- Orders of integers, and whether a bound leaves room for a better solution.
use Rattle.std.proofs.Common.{◌≡◌, ℕ, List, Bool, true, false, Option, Some, None, refl, arith, inl, inr, ℤ, ◌≤ℤ◌, ◌<ℤ◌}
use Rattle.std.proofs.Common.{int_lt}
use Rattle.std.proofs.lemmas.Bool.{both_ways}
use Rattle.std.proofs.lemmas.Int.{ints}
use Rattle.branch_tree.specs.Claims.{CostedPicks, IsNoBetter, is_below}
use Rattle.branch_tree.specs.Meanings.{Meanings}
use Rattle.search.specs.Evaluations.{AreSettled}

pub lower : (a b : ℤ) → int_lt a b ≡ true → a <ℤ b
lower a b e = grind (arith, ints)

pub not_lower : (a b : ℤ) → int_lt a b ≡ false → b ≤ℤ a
not_lower a b e = grind (arith, ints)

pub lower_test : (a b : ℤ) → a <ℤ b → int_lt a b ≡ true
lower_test a b e = grind (arith, ints)

pub not_lower_test : (a b : ℤ) → b ≤ℤ a → int_lt a b ≡ false
not_lower_test a b e = grind (arith, ints)

refuted : (b : Bool) → (b ≡ true → ⊥) → b ≡ false
refuted true never = absurd (never refl)
refuted false never = refl

-- what is no better than a solution is no better than one that costs no more
pub no_better_on : (problem : Meanings) (old new : Option CostedPicks) (picks : List ℕ) → ((bound : ℤ) → is_below bound new ≡ true → is_below bound old ≡ true) → IsNoBetter problem old picks → IsNoBetter problem new picks
no_better_on problem old new picks dearer was = λ solution.
    refuted (is_below (problem.cost picks) new) (λ below. both_ways (is_below (problem.cost picks) old) (was solution) (dearer (problem.cost picks) below))

-- settled picks are no better than the best solution
pub no_better : (problem : Meanings) (region : List (List Bool)) (best : Option CostedPicks) (picks : List ℕ) → AreSettled problem region best picks → IsNoBetter problem best picks
no_better problem region best picks settled = elim settled as (λ _. IsNoBetter problem best picks) [
  | inl solution ↦ λ is. solution.1
  | inr opens ↦ λ is. absurd (opens.no_solution is)
]

-- a lower bound leaves room too
pub below_less : (a b : ℤ) (best : Option CostedPicks) → a ≤ℤ b → is_below b best ≡ true → is_below a best ≡ true
below_less a b None less below = refl
below_less a b (Some plan) less below =
    let under : b <ℤ plan.cost = lower b plan.cost below in lower_test a plan.cost (omega (arith, ints))
