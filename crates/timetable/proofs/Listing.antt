-- Lists that are made of the numbers below a bound.
use Rattle.std.proofs.Common.{◌≡◌, inl, inr, ℕ, zero, suc, ◌+◌, ◌<◌, ◌≤◌, List, [], ◌∷◌, ◌++◌, length, get_or, refl, ap}
use Rattle.std.proofs.Common.{subst, ◌∙◌, arith, length-append, Some, slice_get}
use Rattle.std.proofs.lemmas.Bool.{cases_lt}
use Rattle.std.proofs.lemmas.Option.{get_or_from_slice_get}
use Rattle.timetable.specs.Lists.{listed, joined}

-- what is in the first of two lists, and in the second
pub get_first : {X : Type 0} (xs ys : List X) (k : ℕ) → k < length xs → slice_get (xs ++ ys) k ≡ slice_get xs k
get_first [] ys k below = absurd (omega arith)
get_first (x ∷ xs) ys zero below = refl
get_first (x ∷ xs) ys (suc k) below = get_first xs ys k (omega arith)

pub get_second : {X : Type 0} (xs ys : List X) (k : ℕ) → slice_get (xs ++ ys) (length xs + k) ≡ slice_get ys k
get_second [] ys k = let same : 0 + k ≡ k = omega arith in ap (λ (n : ℕ). slice_get ys n) same
get_second (x ∷ xs) ys k = let same : suc (length xs) + k ≡ suc (length xs + k) = omega arith in ap (λ (n : ℕ). slice_get (x ∷ (xs ++ ys)) n) same ∙ get_second xs ys k

pub length-listed : {X : Type 0} (f : ℕ → X) (n : ℕ) → length (listed f n) ≡ n
length-listed f zero = refl
length-listed f (suc n) = omega (arith, length-append (listed f n) (f n ∷ []), length-listed f n)

pub get_listed : {X : Type 0} (f : ℕ → X) (n k : ℕ) → k < n → slice_get (listed f n) k ≡ Some (f k)
get_listed f zero k below = absurd (omega arith)
get_listed f (suc n) k below = elim (cases_lt k n) [
  | inl before ↦ get_first (listed f n) (f n ∷ []) k (omega (arith, length-listed f n)) ∙ get_listed f n k before
  | inr last ↦
      let here : k ≡ length (listed f n) + 0 = omega (arith, length-listed f n) in
      let same : n ≡ k = omega arith in
      ap (λ (i : ℕ). slice_get (listed f n ++ f n ∷ []) i) here ∙ get_second (listed f n) (f n ∷ []) 0 ∙ ap (λ (i : ℕ). Some (f i)) same
]

-- an entry of one of the lists that are joined
pub get_joined : {X : Type 0} (f : ℕ → List X) (n s k : ℕ) → s < n → k < length (f s) → slice_get (joined f n) (length (joined f s) + k) ≡ slice_get (f s) k
get_joined f zero s k below within = absurd (omega arith)
get_joined f (suc n) s k below within = elim (cases_lt s n) [
  | inl before ↦ get_first (joined f n) (f n) (length (joined f s) + k) (ends_below f n s k before within) ∙ get_joined f n s k before within
  | inr last ↦
      let same : n ≡ s = omega arith in
      subst (λ (t : ℕ). slice_get (joined f n ++ f n) (length (joined f t) + k) ≡ slice_get (f t) k) same (get_second (joined f n) (f n) k)
]
  where
    rises : {X : Type 0} (f : ℕ → List X) (n s : ℕ) → s < n → length (joined f s) + length (f s) ≤ length (joined f n)
    rises f zero s below = absurd (omega arith)
    rises f (suc n) s below = elim (cases_lt s n) [
      | inl before ↦ omega (arith, length-append (joined f n) (f n), rises f n s before)
      | inr last ↦
          let same : n ≡ s = omega arith in
          subst (λ (t : ℕ). length (joined f t) + length (f t) ≤ length (joined f n ++ f n)) same (omega (arith, length-append (joined f n) (f n)))
    ]

    ends_below : {X : Type 0} (f : ℕ → List X) (n s k : ℕ) → s < n → k < length (f s) → length (joined f s) + k < length (joined f n)
    ends_below f n s k below within = omega (arith, rises f n s below)

-- the entry that is read
pub listed_entry : {X : Type 0} (f : ℕ → X) (n k place : ℕ) (x : X) (xs : List X) → xs ≡ listed f n → k < n → place ≡ k → x ≡ get_or xs place x → x ≡ f k
listed_entry {X = X} f n k place x xs is below at read =
    read ∙ ap (λ (i : ℕ). get_or xs i x) at ∙ ap (λ (ys : List X). get_or ys k x) is ∙ get_or_from_slice_get (listed f n) k (f k) x (get_listed f n k below)
