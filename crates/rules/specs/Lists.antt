-- Words on lists of numbers: how often a number is there, and sums over numbers below a bound.
use Rattle.std.specs.Prelude.{ℕ, zero, suc, ◌+◌, ◌≤◌, List, [], ◌∷◌, ◌++◌, Bool, ◌==◌, if◌then◌else◌, nat_le}
use Rattle.std.specs.Prelude.{option_map, unwrap_or, slice_get}

-- a number of the entry at a place, and a default where there is none
abbrev pub of_entry : {X : Type 0} → (X → ℕ) → List X → ℕ → ℕ → ℕ
of_entry read xs i default = unwrap_or (option_map read (slice_get xs i)) default

-- how often a number is in a list
abbrev pub count_of : ℕ → List ℕ → ℕ
count_of x [] = 0
count_of x (y ∷ ys) = (if y == x then 1 else 0) + count_of x ys

-- whether a number is in a list
abbrev pub has : ℕ → List ℕ → Bool
has x ys = nat_le 1 (count_of x ys)

-- no number is in the list twice
abbrev pub IsDistinct : List ℕ → Type 0
IsDistinct xs = (x : ℕ) → count_of x xs ≤ 1

-- the numbers below a bound, in order
abbrev pub below : ℕ → List ℕ
below zero = []
below (suc n) = below n ++ n ∷ []

-- what f gives of each number below a bound, in order
abbrev pub listed : {X : Type 0} → (ℕ → X) → ℕ → List X
listed f zero = []
listed f (suc n) = listed f n ++ f n ∷ []

-- the lists that f gives of the numbers below a bound, one after another
abbrev pub joined : {X : Type 0} → (ℕ → List X) → ℕ → List X
joined f zero = []
joined f (suc n) = joined f n ++ f n

-- the sum of f over the numbers below a bound
abbrev pub sum_below : (ℕ → ℕ) → ℕ → ℕ
sum_below f zero = 0
sum_below f (suc n) = sum_below f n + f n

-- how many numbers below a bound pass the test
abbrev pub count_below : (ℕ → Bool) → ℕ → ℕ
count_below p n = sum_below (λ k. if p k then 1 else 0) n
