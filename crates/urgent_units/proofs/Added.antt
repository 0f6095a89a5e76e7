-- Sums over lists of which entries change.
use Rattle.std.proofs.Common.{◌≡◌, ◌≢◌, ℕ, zero, suc, ◌+◌, ◌≤◌, ◌<◌, List, [], ◌∷◌, length, get_or, slice_set, refl, sym, ap, ◌∙◌, arith, Bool, drop, Some}
use Rattle.std.specs.Prelude.{slice_get}
use Rattle.std.specs.List.{count_by}
use Rattle.std.proofs.lemmas.List.{get_or-set_same, get_or-set_other, length-set}
use Rattle.urgent_units.specs.UnderWay.{added, ones}
use Rattle.urgent_units.proofs.ListSums.{counted_over, over}

pub added_set : {X : Type 0} (f : X → ℕ) (xs : List X) (k : ℕ) (x d : X) → k < length xs → added f (slice_set xs k x) + f (get_or xs k d) ≡ added f xs + f x
added_set f [] k x d within = absurd (omega (arith, within))
added_set f (y ∷ ys) zero x d within = omega arith
added_set f (y ∷ ys) (suc k) x d within = omega (arith, added_set f ys k x d (omega (arith, within)))

pub added_at : {X : Type 0} (f : X → ℕ) (xs : List X) (k : ℕ) (d : X) → k < length xs → f (get_or xs k d) ≤ added f xs
added_at f [] k d within = absurd (omega (arith, within))
added_at f (y ∷ ys) zero d within = omega arith
added_at f (y ∷ ys) (suc k) d within = omega (arith, added_at f ys k d (omega (arith, within)))

pub added_two : {X : Type 0} (f : X → ℕ) (xs : List X) (j k : ℕ) (d : X) → j ≢ k → j < length xs → k < length xs → f (get_or xs j d) + f (get_or xs k d) ≤ added f xs
added_two f [] j k d differ at_j at_k = absurd (omega (arith, at_j))
added_two f (y ∷ ys) zero zero d differ at_j at_k = absurd (differ refl)
added_two f (y ∷ ys) zero (suc k) d differ at_j at_k = omega (arith, added_at f ys k d (omega (arith, at_k)))
added_two f (y ∷ ys) (suc j) zero d differ at_j at_k = omega (arith, added_at f ys j d (omega (arith, at_j)))
added_two f (y ∷ ys) (suc j) (suc k) d differ at_j at_k =
    omega (arith, added_two f ys j k d (λ e. differ (ap (λ (n : ℕ). suc n) e)) (omega (arith, at_j)) (omega (arith, at_k)))

pub added_none : {X : Type 0} (f : X → ℕ) (xs : List X) (d : X) → ((k : ℕ) → k < length xs → f (get_or xs k d) ≡ 0) → added f xs ≡ 0
added_none f [] d none = refl
added_none f (y ∷ ys) d none = omega (arith, none 0 (omega arith), added_none f ys d (λ k below. none (suc k) (omega (arith, below))))

pub added_is : {X : Type 0} (f : X → ℕ) (xs : List X) → added f xs ≡ over f xs
added_is f [] = refl
added_is f (x ∷ xs) = omega (arith, added_is f xs)

pub added_counts : {X : Type 0} (p : X → Bool) (xs : List X) → added (λ x. ones (p x)) xs ≡ count_by p xs
added_counts {X} p xs = added_is (λ (x : X). ones (p x)) xs ∙ counted_over p xs

-- an entry that is found
pub found : {X : Type 0} (xs : List X) (k : ℕ) (x d : X) → slice_get xs k ≡ Some x → get_or xs k d ≡ x
found [] k x d is = absurd cc
found (y ∷ ys) zero x d is = cc
found (y ∷ ys) (suc k) x d is = found ys k x d is

-- the same entry, whatever is read where there is none
pub entry : {X : Type 0} (xs : List X) (k : ℕ) (x d : X) → k < length xs → x ≡ get_or xs k x → get_or xs k d ≡ x
entry [] k x d within is = absurd (omega (arith, within))
entry (y ∷ ys) zero x d within is = sym is
entry (y ∷ ys) (suc k) x d within is = entry ys k x d (omega (arith, within)) is

pub drop_more : {X : Type 0} (n : ℕ) (xs : List X) → drop (n + 1) xs ≡ drop 1 (drop n xs)
drop_more {X} n xs = ap (λ (k : ℕ). drop k xs) (let same : n + 1 ≡ suc n = omega arith in same) ∙ by n xs
  where
    by : (n : ℕ) (xs : List X) → drop (suc n) xs ≡ drop 1 (drop n xs)
    by zero [] = refl
    by zero (x ∷ xs) = refl
    by (suc n) [] = refl
    by (suc n) (x ∷ xs) = by n xs

-- ---- two entries in each other's place

module _ {X : Type 0} (xs : List X) (i j : ℕ) (a b : X) (differ : i ≢ j) (at_i : i < length xs) (at_j : j < length xs) (a_is : (d : X) → get_or xs i d ≡ a) (b_is : (d : X) → get_or xs j d ≡ b) where
  abbrev pub exchanged_entries : List X
  exchanged_entries = slice_set (slice_set xs i b) j a

  pub exchanged_long : length exchanged_entries ≡ length xs
  exchanged_long = length-set (slice_set xs i b) j a ∙ length-set xs i b

  pub exchanged_added : (f : X → ℕ) → added f exchanged_entries ≡ added f xs
  exchanged_added f =
      let long = length-set xs i b in
      let second = added_set f (slice_set xs i b) j a a (omega (arith, at_j, long)) in
      let kept = ap f (get_or-set_other xs i j b a (λ e. differ (sym e)) ∙ b_is a) in
      let first = added_set f xs i b a at_i in
      let was = ap f (a_is a) in
      omega (arith, second, kept, first, was)

  pub at_first : (d : X) → get_or exchanged_entries i d ≡ b
  at_first d = get_or-set_other (slice_set xs i b) j i a d differ ∙ get_or-set_same xs i b d at_i

  pub at_second : (d : X) → get_or exchanged_entries j d ≡ a
  at_second d = get_or-set_same (slice_set xs i b) j a d (let long = length-set xs i b in omega (arith, at_j, long))

  pub at_third : (d : X) (k : ℕ) → k ≢ i → k ≢ j → get_or exchanged_entries k d ≡ get_or xs k d
  at_third d k not_i not_j = get_or-set_other (slice_set xs i b) j k a d not_j ∙ get_or-set_other xs i k b d not_i
