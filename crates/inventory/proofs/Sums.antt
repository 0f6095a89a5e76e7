-- How often a type is in a list of units, as a sum over the units below a bound.
use Rattle.std.proofs.Common.{◌≡◌, ℕ, ◌+◌, ◌<◌, ◌≤◌, List, [], ◌∷◌, map, Bool, true, false, cond, eqb, refl, sym, arith}
use Rattle.std.proofs.Common.{◌≢◌}
use Rattle.std.specs.Prelude.{if◌then◌else◌, ◌==◌}
use Rattle.std.proofs.lemmas.Bool.{cond-true, cond-false, eq-eqb, ne_eqb}
use Rattle.timetable.specs.Lists.{count_of, sum_below}
pub use Rattle.timetable.proofs.Ones.{one, one_same, one_other}
pub use Rattle.timetable.proofs.Sums.{sum_first, sum_same, sum_add, sum_le, sum_zero, sum_swap, sum_one_more}

-- a list has so many units of a type as its units below a bound have that type
pub sum_of_type : (type_of : ℕ → ℕ) (m n : ℕ) (us : List ℕ) → ((u : ℕ) → 1 ≤ count_of u us → u < n)
    → sum_below (λ u. if type_of u == m then count_of u us else 0) n ≡ count_of m (map type_of us)
sum_of_type type_of m n [] known = sum_zero (λ u. if type_of u == m then 0 else 0) n (λ u lt. none (type_of u == m))
  where
    none : (b : Bool) → cond {A = ℕ} b 0 0 ≡ 0
    none true = refl
    none false = refl
sum_of_type type_of m n (x ∷ us) known =
    let rest = sum_of_type type_of m n us (λ u c. known u (omega arith)) in
    let one : cond {A = ℕ} (eqb x x) 1 0 ≡ 1 = cond-true (eqb x x) 1 0 (eq-eqb x x refl) in
    let more = sum_one_more (λ u. if type_of u == m then count_of u (x ∷ us) else 0) (λ u. if type_of u == m then count_of u us else 0) x (if type_of x == m then 1 else 0) n
    (known x (omega arith)) (at_x (type_of x == m) (count_of x us))
    (λ u ne. elsewhere u (type_of u == m) (λ e. ne e)) in
    omega arith
  where
    at_x : (b : Bool) (k : ℕ) → cond {A = ℕ} b ((if x == x then 1 else 0) + k) 0 ≡ cond {A = ℕ} b k 0 + cond {A = ℕ} b 1 0
    at_x true k = let one : cond {A = ℕ} (eqb x x) 1 0 ≡ 1 = cond-true (eqb x x) 1 0 (eq-eqb x x refl) in omega arith
    at_x false k = omega arith

    elsewhere : (u : ℕ) (b : Bool) → u ≢ x → cond {A = ℕ} b ((if x == u then 1 else 0) + count_of u us) 0 ≡ cond {A = ℕ} b (count_of u us) 0
    elsewhere u true ne = let no : cond {A = ℕ} (eqb x u) 1 0 ≡ 0 = cond-false (eqb x u) 1 0 (ne_eqb x u (λ e. ne (sym e))) in omega arith
    elsewhere u false ne = refl
