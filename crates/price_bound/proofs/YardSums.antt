-- Amounts of a row that are added up from the last to the first.
use Rattle.std.proofs.Common.{◌≡◌, ℕ, zero, suc, ◌<◌, List, [], ◌∷◌, ◌++◌, length, set, get_or, take, drop, map, refl, sym}
use Rattle.std.proofs.Common.{ap, ◌∙◌, subst, arith, ℤ, pos, ◌+ℤ◌}
use Rattle.inventory.specs.CountTable.{plus}
use Rattle.price_bound.specs.CellSizes.{IsSmall}
use Rattle.price_bound.specs.PriceTables.{cleared_table}
use Rattle.price_bound.specs.YardTables.{later_sums, whole_sum}
use Rattle.price_bound.proofs.Adding.{plus_is}

-- ---- one amount more is added up

pub still_there : (xs rest : List ℤ) (k : ℕ) → k < length xs → get_or (take (suc k) xs ++ rest) k (pos 0) ≡ get_or xs k (pos 0)
still_there [] rest k lt = absurd (omega (arith, lt))
still_there (x ∷ xs) rest zero lt = refl
still_there (x ∷ xs) rest (suc k) lt = still_there xs rest k (omega (arith, lt))

pub still_long : (xs rest : List ℤ) (k : ℕ) → k < length xs → k < length (take (suc k) xs ++ rest)
still_long [] rest k lt = absurd (omega (arith, lt))
still_long (x ∷ xs) rest zero lt = omega arith
still_long (x ∷ xs) rest (suc k) lt = omega (arith, still_long xs rest k (omega (arith, lt)))

pub one_more : (xs : List ℤ) (k : ℕ) → k < length xs
    → set (take (suc k) xs ++ later_sums (drop (suc k) xs)) k (plus (whole_sum (drop (suc k) xs)) (get_or xs k (pos 0)))
    ≡ take k xs ++ later_sums (drop k xs)
one_more [] k lt = absurd (omega (arith, lt))
one_more (x ∷ xs) zero lt = refl
one_more (x ∷ xs) (suc k) lt = ap (λ (ys : List ℤ). x ∷ ys) (one_more xs k (omega (arith, lt)))

pub sum_more : (xs : List ℤ) (k : ℕ) → k < length xs
    → plus (whole_sum (drop (suc k) xs)) (get_or xs k (pos 0)) ≡ whole_sum (drop k xs)
sum_more [] k lt = absurd (omega (arith, lt))
sum_more (x ∷ xs) zero lt = refl
sum_more (x ∷ xs) (suc k) lt = sum_more xs k (omega (arith, lt))

-- ---- what the sums are

pub length-sums : (xs : List ℤ) → length (later_sums xs) ≡ length xs
length-sums [] = refl
length-sums (x ∷ xs) = ap suc (length-sums xs)

-- sums that go on from one to the next are those of a row
pub whole_is : (xs : List ℤ) (amount sum : ℕ → ℤ) → ((k : ℕ) → k < length xs → get_or xs k (pos 0) ≡ amount k)
    → sum (length xs) ≡ pos 0 → ((k : ℕ) → sum k ≡ sum (suc k) +ℤ amount k)
    → ((k : ℕ) → IsSmall 4000000000000000000 (sum k)) → whole_sum xs ≡ sum 0
whole_is [] amount sum at none next small = sym none
whole_is (x ∷ xs) amount sum at none next small =
    let rest : whole_sum xs ≡ sum 1 =
    whole_is xs (λ k. amount (suc k)) (λ k. sum (suc k)) (λ k lt. at (suc k) (omega (arith, lt))) none (λ k. next (suc k))
    (λ k. small (suc k)) in
    ap (λ (v : ℤ). plus v x) rest ∙ ap (plus (sum 1)) (at 0 (omega arith))
    ∙ plus_is (sum 1) (amount 0) (subst (IsSmall 4000000000000000000) (next 0) (small 0)) ∙ sym (next 0)

pub sums_are : (xs : List ℤ) (amount sum : ℕ → ℤ) → ((k : ℕ) → k < length xs → get_or xs k (pos 0) ≡ amount k)
    → sum (length xs) ≡ pos 0 → ((k : ℕ) → sum k ≡ sum (suc k) +ℤ amount k)
    → ((k : ℕ) → IsSmall 4000000000000000000 (sum k)) → (k : ℕ) → k < length xs
    → get_or (later_sums xs) k (pos 0) ≡ sum k
sums_are [] amount sum at none next small k lt = absurd (omega (arith, lt))
sums_are (x ∷ xs) amount sum at none next small zero lt = whole_is (x ∷ xs) amount sum at none next small
sums_are (x ∷ xs) amount sum at none next small (suc k) lt =
    sums_are xs (λ k. amount (suc k)) (λ k. sum (suc k)) (λ k below. at (suc k) (omega (arith, below))) none
    (λ k. next (suc k)) (λ k. small (suc k)) k (omega (arith, lt))

-- ---- where nothing is put

whole_none : (xs : List ℤ) → whole_sum (map (λ (_ : ℤ). pos 0) xs) ≡ pos 0
whole_none [] = refl
whole_none (x ∷ xs) = ap (λ (sum : ℤ). plus sum (pos 0)) (whole_none xs)

row_none : (xs : List ℤ) → later_sums (map (λ (_ : ℤ). pos 0) xs) ≡ map (λ (_ : ℤ). pos 0) xs
row_none [] = refl
row_none (x ∷ xs) =
    ap (λ (sum : ℤ). sum ∷ later_sums (map (λ (_ : ℤ). pos 0) xs)) (whole_none (x ∷ xs))
    ∙ ap (λ (ys : List ℤ). pos 0 ∷ ys) (row_none xs)

table_none : (table : List (List ℤ)) → map later_sums (cleared_table table) ≡ cleared_table table
table_none [] = refl
table_none (xs ∷ table) =
    ap (λ (ys : List ℤ). ys ∷ map later_sums (cleared_table table)) (row_none xs)
    ∙ ap (λ (rows : List (List ℤ)). map (λ (_ : ℤ). pos 0) xs ∷ rows) (table_none table)

-- amounts that are 0 stay so when they are added up
pub sums_none : (tables : List (List (List ℤ))) → map (map later_sums) (map cleared_table tables) ≡ map cleared_table tables
sums_none [] = refl
sums_none (table ∷ tables) =
    ap (λ (rows : List (List ℤ)). rows ∷ map (map later_sums) (map cleared_table tables)) (table_none table)
    ∙ ap (λ (rest : List (List (List ℤ))). cleared_table table ∷ rest) (sums_none tables)
