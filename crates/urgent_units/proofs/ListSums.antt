-- Sums over lists.
use Rattle.std.proofs.Common.{◌≡◌, ℕ, zero, suc, ◌+◌, ◌≤◌, Bool, true, false, cond, List, [], ◌∷◌, ◌++◌, map, refl, arith}
use Rattle.std.specs.Prelude.{if◌then◌else◌}
use Rattle.std.specs.List.{All, count_by, flat_map}
use Rattle.std.proofs.lemmas.List.Elements.{All-head, All-tail}
use Rattle.std.proofs.lemmas.List.Recursion.{is_count_by}
use Rattle.timetable.specs.Lists.{sum_below}

-- what f gives of each entry, added up
abbrev pub over : {X : Type 0} → (X → ℕ) → List X → ℕ
over f [] = 0
over f (x ∷ xs) = f x + over f xs

-- one where a test passes
abbrev pub tally : Bool → ℕ
tally b = if b then 1 else 0

pub counted_over : {X : Type 0} (p : X → Bool) (xs : List X) → over (λ x. tally (p x)) xs ≡ count_by p xs
counted_over {X} p xs = is_count_by (over (λ (x : X). tally (p x))) p refl (λ x xs. step (p x) (over (λ (x : X). tally (p x)) xs)) xs
  where
    step : (b : Bool) (n : ℕ) → tally b + n ≡ cond b (1 + n) n
    step true n = refl
    step false n = omega arith

pub over-append : {X : Type 0} (f : X → ℕ) (xs ys : List X) → over f (xs ++ ys) ≡ over f xs + over f ys
over-append f [] ys = omega arith
over-append f (x ∷ xs) ys = omega (arith, over-append f xs ys)

pub over-map : {X Y : Type 0} (f : Y → ℕ) (g : X → Y) (xs : List X) → over f (map g xs) ≡ over (λ x. f (g x)) xs
over-map f g [] = refl
over-map f g (x ∷ xs) = omega (arith, over-map f g xs)

pub over-flat_map : {X Y : Type 0} (f : Y → ℕ) (g : X → List Y) (xs : List X) → over f (flat_map g xs) ≡ over (λ x. over f (g x)) xs
over-flat_map f g [] = refl
over-flat_map f g (x ∷ xs) = omega (arith, over-append f (g x) (flat_map g xs), over-flat_map f g xs)

pub over_same : {X : Type 0} (f g : X → ℕ) (xs : List X) → All (λ x. f x ≡ g x) xs → over f xs ≡ over g xs
over_same f g [] same = refl
over_same {X} f g (x ∷ xs) same =
    omega (arith, All-head (λ (x : X). f x ≡ g x) x xs same, over_same f g xs (All-tail (λ (x : X). f x ≡ g x) x xs same))

pub over_le : {X : Type 0} (f g : X → ℕ) (xs : List X) → All (λ x. f x ≤ g x) xs → over f xs ≤ over g xs
over_le f g [] le = omega arith
over_le {X} f g (x ∷ xs) le =
    omega (arith, All-head (λ (x : X). f x ≤ g x) x xs le, over_le f g xs (All-tail (λ (x : X). f x ≤ g x) x xs le))

pub over_add : {X : Type 0} (f g : X → ℕ) (xs : List X) → over (λ x. f x + g x) xs ≡ over f xs + over g xs
over_add f g [] = refl
over_add f g (x ∷ xs) = omega (arith, over_add f g xs)

-- a sum below a bound for each entry, and the sum of all entries for each number below the bound
pub over_sum_below : {X : Type 0} (f : ℕ → X → ℕ) (n : ℕ) (xs : List X) → over (λ x. sum_below (λ k. f k x) n) xs ≡ sum_below (λ k. over (f k) xs) n
over_sum_below f zero xs = zeros xs
  where
    zeros : {X : Type 0} (xs : List X) → over (λ _. 0) xs ≡ 0
    zeros [] = refl
    zeros (x ∷ xs) = omega (arith, zeros xs)
over_sum_below {X} f (suc n) xs = omega (arith, over_add (λ (x : X). sum_below (λ k. f k x) n) (f n) xs, over_sum_below f n xs)
