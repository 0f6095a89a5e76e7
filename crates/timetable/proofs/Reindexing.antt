-- Numbers below a bound that are given others, no two the same.
use Rattle.std.proofs.Common.{◌≡◌, ℕ, zero, suc, ◌+◌, ◌-◌, ◌<◌, ◌≤◌, refl, sym, ◌∙◌, subst, arith, ◌≢◌, ⊎_elim, inl}
use Rattle.std.proofs.Common.{inr, eqb}
use Rattle.std.specs.Prelude.{if◌then◌else◌, ◌==◌, ◌⊎◌}
use Rattle.std.proofs.lemmas.Bool.{cases_eq, cond-true, cond-false, eq-eqb, ne_eqb}
use Rattle.timetable.specs.Lists.{sum_below}
use Rattle.timetable.proofs.Ones.{one, one_same, one_other}
use Rattle.timetable.proofs.Sums.{sum_same, sum_add, sum_le, sum_zero, sum_one_more, sum_ones, sum_swap}

-- what stands at one number
pub sum_at : (g : ℕ → ℕ) (x k : ℕ) → x < k → sum_below (λ v. if x == v then g v else 0) k ≡ g x
sum_at g x k lt =
    let more = sum_one_more (λ v. if x == v then g v else 0) (λ v. 0) x (g x) k lt
    (let here = cond-true {A = ℕ} (eqb x x) (g x) 0 (eq-eqb x x refl) in omega arith)
    (λ v ne. cond-false {A = ℕ} (eqb x v) (g v) 0 (ne_eqb x v (λ e. ne (sym e)))) in
    let none = sum_zero (λ v. 0) k (λ v lt. refl) in
    omega arith

-- one number at most is given a number
given_once : (number : ℕ → ℕ) (v x n : ℕ) → ((u w : ℕ) → u < n → w < n → number u ≡ number w → u ≡ w) → sum_below (λ u. if number u == v then x else 0) n ≤ x
given_once number v x zero once = omega arith
given_once number v x (suc n) once = ⊎_elim
    (λ (e : number n ≡ v).
    let none = sum_zero (λ u. if number u == v then x else 0) n
    (λ u lt. cond-false {A = ℕ} (eqb (number u) v) x 0 (ne_eqb (number u) v (λ is. let same : u ≡ n = once u n (omega arith) (omega arith) (is ∙ sym e) in absurd (omega arith)))) in
    let last = cond-true {A = ℕ} (eqb (number n) v) x 0 (eq-eqb (number n) v e) in
    omega arith)
    (λ (ne : number n ≢ v).
    let rest = given_once number v x n (λ u w lu lw. once u w (omega arith) (omega arith)) in
    let last = cond-false {A = ℕ} (eqb (number n) v) x 0 (ne_eqb (number n) v ne) in
    omega arith)
    (cases_eq (number n) v)

module _ (number : ℕ → ℕ) (n k : ℕ) (known : (u : ℕ) → u < n → number u < k) (once : (u v : ℕ) → u < n → v < n → number u ≡ number v → u ≡ v) where
  pub sum_given : (g : ℕ → ℕ) → sum_below (λ u. g (number u)) n ≤ sum_below g k
  sum_given g =
      let parted = sum_same (λ u. g (number u)) (λ u. sum_below (λ v. if number u == v then g v else 0) k) n (λ u lt. sym (sum_at g (number u) k (known u lt))) in
      let swapped = sum_swap (λ u v. if number u == v then g v else 0) n k in
      let few = sum_le (λ v. sum_below (λ u. if number u == v then g v else 0) n) g k (λ v lt. given_once number v (g v) n once) in
      omega arith

  -- there are no fewer numbers to give
  pub given_few : n ≤ k
  given_few = let sum = sum_given (λ _. 1) in omega (arith, sum_ones n, sum_ones k)

-- Where two functions are alike on each number that is not given, one is as much more than the other in all as on those
-- that are given.
pub sum_apart : (number : ℕ → ℕ) (n k : ℕ) → ((u : ℕ) → u < n → number u < k) → ((u w : ℕ) → u < n → w < n → number u ≡ number w → u ≡ w)
    → (f g : ℕ → ℕ) → ((v : ℕ) → v < k → ((u : ℕ) → u < n → number u ≢ v) → f v ≡ g v)
    → sum_below f k + sum_below (λ u. g (number u)) n ≡ sum_below g k + sum_below (λ u. f (number u)) n
sum_apart number zero k known once f g alike = let same = sum_same f g k (λ v lt. alike v lt (λ u below. absurd (omega arith))) in omega arith
sum_apart number (suc n) k known once f g alike =
    let x : ℕ = number n in
    let but : ℕ → ℕ = λ v. if x == v then g v else f v in
    let rest = sum_apart number n k (λ u lt. known u (omega arith)) (λ u w lu lw. once u w (omega arith) (omega arith)) but g (λ v lt none. elim (cases_eq x v) [
      | inl e ↦ cond-true (eqb x v) (g v) (f v) (eq-eqb x v e)
      | inr ne ↦ cond-false (eqb x v) (g v) (f v) (ne_eqb x v ne) ∙ alike v lt (λ u below. elim (cases_eq u n) [
        | inl is ↦ subst (λ (w : ℕ). number w ≢ v) (sym is) ne
        | inr other ↦ none u (omega arith)
      ])
    ]) in
    let others = sum_same (λ u. but (number u)) (λ u. f (number u)) n
    (λ u lt. cond-false (eqb x (number u)) (g (number u)) (f (number u)) (ne_eqb x (number u) (λ e. let same : n ≡ u = once n u (omega arith) (omega arith) e in absurd (omega arith)))) in
    let both = sum_same (λ v. f v + (if x == v then g v else 0)) (λ v. but v + (if x == v then f v else 0)) k (λ v lt. elim (cases_eq x v) [
      | inl e ↦
          let first = cond-true {A = ℕ} (eqb x v) (g v) 0 (eq-eqb x v e) in
          let second = cond-true {A = ℕ} (eqb x v) (g v) (f v) (eq-eqb x v e) in
          let third = cond-true {A = ℕ} (eqb x v) (f v) 0 (eq-eqb x v e) in
          omega arith
      | inr ne ↦
          let first = cond-false {A = ℕ} (eqb x v) (g v) 0 (ne_eqb x v ne) in
          let second = cond-false {A = ℕ} (eqb x v) (g v) (f v) (ne_eqb x v ne) in
          let third = cond-false {A = ℕ} (eqb x v) (f v) 0 (ne_eqb x v ne) in
          omega arith
    ]) in
    let left = sum_add f (λ v. if x == v then g v else 0) k in
    let right = sum_add but (λ v. if x == v then f v else 0) k in
    let here = sum_at g x k (known n (omega arith)) in
    let there = sum_at f x k (known n (omega arith)) in
    omega arith

-- a number is given to one below a bound, or to none
pub sought : (number : ℕ → ℕ) (v m : ℕ) → ((u : ℕ) × (u < m) × (number u ≡ v)) ⊎ ((u : ℕ) → u < m → number u ≢ v)
sought number v zero = inr (λ u lt. absurd (omega arith))
sought number v (suc m) = elim (cases_eq (number m) v) [
  | inl e ↦ inl (m, (omega arith), e)
  | inr ne ↦ elim (sought number v m) [
    | inl found ↦ inl (found.0, (let lt = found.1 in omega arith), found.2)
    | inr none ↦ inr (λ u lt. elim (cases_eq u m) [
      | inl is ↦ subst (λ (w : ℕ). number w ≢ v) (sym is) ne
      | inr other ↦ none u (omega arith)
    ])
  ]
]

-- as many as there are to give
module _ (number : ℕ → ℕ) (n : ℕ) (known : (u : ℕ) → u < n → number u < n) (once : (u v : ℕ) → u < n → v < n → number u ≡ number v → u ≡ v) where
  -- as many of the one pass a test as of the others
  pub tally_given : (g : ℕ → ℕ) → ((v : ℕ) → g v ≤ 1) → sum_below (λ u. g (number u)) n ≡ sum_below g n
  tally_given g few =
      let less = sum_given number n n known once g in
      let others = sum_given number n n known once (λ v. 1 - g v) in
      let all = sum_add (λ u. g (number u)) (λ u. 1 - g (number u)) n in
      let all_is = sum_same (λ u. g (number u) + (1 - g (number u))) (λ _. 1) n (λ u lt. let small = few (number u) in omega arith) in
      let each = sum_add g (λ v. 1 - g v) n in
      let each_is = sum_same (λ v. g v + (1 - g v)) (λ _. 1) n (λ v lt. let small = few v in omega arith) in
      omega arith

  -- each is given
  pub is_given : (v : ℕ) → v < n → (u : ℕ) × (u < n) × (number u ≡ v)
  is_given v lt = elim (sought number v n) [
    | inl found ↦ found
    | inr none ↦
        let sum = sum_given number n n known once (λ w. 1 - one v w) in
        let all = sum_same (λ u. 1 - one v (number u)) (λ _. 1) n (λ u below. let other = one_other v (number u) (λ e. none u below (sym e)) in omega arith) in
        let each = sum_add (λ w. one v w) (λ w. 1 - one v w) n in
        let each_is = sum_same (λ w. one v w + (1 - one v w)) (λ _. 1) n (λ w below. small w) in
        let here = sum_at (λ _. 1) v n lt in
        absurd (omega (arith, sum_ones n))
  ]
    where
      small : (w : ℕ) → one v w + (1 - one v w) ≡ 1
      small w = elim (cases_eq v w) [
        | inl e ↦ let o = one_same v w e in omega arith
        | inr ne ↦ let o = one_other v w ne in omega arith
      ]
