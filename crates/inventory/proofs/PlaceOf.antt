-- Where a search finds a minute among rising minutes.
use Rattle.std.proofs.Common.{◌≡◌, ℕ, zero, suc, ◌<◌, ◌≤◌, List, [], ◌∷◌, length, get_or, Result, Ok, Err, sym, ap, ◌∙◌}
use Rattle.std.proofs.Common.{subst, arith, inl, inr}
use Rattle.std.specs.List.{AllPairs}
use Rattle.std.specs.List.Sorted.{IsBinarySearchResult}
use Rattle.std.specs.Ordering.{nat_cmp}
use Rattle.std.proofs.lemmas.Bool.{cases_lt, cond-true, cond-false, lt-ltb, le-ltb}
use Rattle.std.proofs.lemmas.List.Sorted.{searched}
use Rattle.std.specs.Prelude.{nat_lt}
use Rattle.inventory.specs.CountTable.{earlier}

not_falling : (ks : List ℕ) → AllPairs (λ a b. a < b) ks → (i j : ℕ) → i ≤ j → j < length ks → get_or ks i 0 ≤ get_or ks j 0
not_falling ks rise i j order below = elim (cases_lt i j) [
  | inl before ↦ (let lower : get_or ks i 0 < get_or ks j 0 = rise i j 0 before below in omega arith)
  | inr last ↦ (let same : i ≡ j = omega arith in subst (λ (k : ℕ). get_or ks i 0 ≤ get_or ks k 0) same (omega arith))
]

-- the place before which all are earlier, and from which on none is
pub earlier_is : (ks : List ℕ) (i m : ℕ) → i ≤ length ks → ((k : ℕ) → k < i → get_or ks k 0 < m) → (i < length ks → m ≤ get_or ks i 0) → i ≡ earlier m ks
earlier_is [] i m within before at = omega arith
earlier_is (x ∷ ks) zero m within before at = sym (cond-false (nat_lt x m) (suc (earlier m ks)) 0 (le-ltb x m (at (omega arith))))
earlier_is (x ∷ ks) (suc i) m within before at =
    ap suc (earlier_is ks i m (omega arith) (λ k lt. before (suc k) (omega arith)) (λ lt. at (omega arith)))
    ∙ sym (cond-true (nat_lt x m) (suc (earlier m ks)) 0 (lt-ltb x m (before 0 (omega arith))))

pub found : (ks : List ℕ) (m i : ℕ) (r : Result ℕ ℕ) → r ≡ Ok i → AllPairs (λ a b. a < b) ks → IsBinarySearchResult (λ y. nat_cmp y m) ks r → i ≡ earlier m ks
found ks m i r is rise says =
    let (below, at) = searched ks m (Ok i) (subst (λ (r : Result ℕ ℕ). IsBinarySearchResult (λ y. nat_cmp y m) ks r) is says) (not_falling ks rise) in
    earlier_is ks i m (omega arith) (λ k before. subst (λ (x : ℕ). get_or ks k 0 < x) at (rise k i 0 before below)) (λ lt. omega arith)

pub place_found : (ks : List ℕ) (m i : ℕ) (r : Result ℕ ℕ) → r ≡ Err i → AllPairs (λ a b. a < b) ks → IsBinarySearchResult (λ y. nat_cmp y m) ks r → i ≡ earlier m ks
place_found ks m i r is rise says =
    let (within, lower, higher) = searched ks m (Err i) (subst (λ (r : Result ℕ ℕ). IsBinarySearchResult (λ y. nat_cmp y m) ks r) is says) (not_falling ks rise) in
    earlier_is ks i m within lower (λ lt. (let more : m < get_or ks i 0 = higher i (omega arith) lt in omega arith))
