-- A composition is looked up among compositions in order.
use Rattle.std.proofs.Common.{◌≡◌, ℕ, ◌+◌, ◌<◌, ◌≤◌, true, false, inl, inr, List, get_or, length, ◌∙◌, sym, subst}
use Rattle.std.proofs.Common.{arith, AllPairs, Contains}
use Rattle.std.proofs.lemmas.Bool.{cases_eq, cases_order, both_ways}
use Rattle.std.proofs.lemmas.List.{get_or_read}
use Rattle.compositions.specs.Catalogue.{comes_before}
use Rattle.compositions.proofs.Order.{before_irreflexive, before_transitive}

module _ (list : List (List ℕ)) (in_order : AllPairs (λ x y. comes_before x y ≡ true) list) (sought : List ℕ) where
  -- with one that comes before the one that is sought, all up to it do
  pub all_before : (at : ℕ) (x : List ℕ) → at < length list → x ≡ get_or list at x → comes_before x sought ≡ true
      → (k : ℕ) (d : List ℕ) → k < at + 1 → comes_before (get_or list k d) sought ≡ true
  all_before at x below is before k d upto =
      let here : comes_before (get_or list at d) sought ≡ true =
      subst (λ (w : List ℕ). comes_before w sought ≡ true) (get_or_read list at x below is d) before in
      elim (cases_eq k at) [
        | inl e ↦ subst (λ (n : ℕ). comes_before (get_or list n d) sought ≡ true) (sym e) here
        | inr differs ↦ before_transitive (get_or list k d) (get_or list at d) sought (in_order k at d (omega (arith, differs)) below) here
      ]

  -- one that is there stands at the first place that does not come before it
  pub only_there : (at : ℕ) (x : List ℕ) → at < length list → x ≡ get_or list at x
      → ((k : ℕ) (d : List ℕ) → k < at → comes_before (get_or list k d) sought ≡ true)
      → ((d : List ℕ) → at < length list → comes_before (get_or list at d) sought ≡ false)
      → Contains list sought → x ≡ sought
  only_there at x below is before after there =
      let found : get_or list there.0 sought ≡ sought = there.2 in
      elim (cases_order there.0 at) [
        | inl e ↦ get_or_read list at x below is sought ∙ subst (λ (n : ℕ). get_or list n sought ≡ sought) e found
        | inr differ ↦ elim differ [
          | inl earlier ↦ absurd (before_irreflexive sought (subst (λ (w : List ℕ). comes_before w sought ≡ true) found (before there.0 sought earlier)))
          | inr later ↦ absurd (both_ways _ (after sought below)
              (subst (λ (w : List ℕ). comes_before (get_or list at sought) w ≡ true) found (in_order at there.0 sought later there.1)))
        ]
      ]

  -- where all come before it, it is not there
  pub nowhere : (at : ℕ) → length list ≤ at → ((k : ℕ) (d : List ℕ) → k < at → comes_before (get_or list k d) sought ≡ true) → Contains list sought → ⊥
  nowhere at end before there =
      before_irreflexive sought (subst (λ (w : List ℕ). comes_before w sought ≡ true) there.2 (before there.0 sought (omega (arith, there.1))))
