-- Sums over the numbers below a bound.
use Rattle.std.proofs.Common.{◌≡◌, ℕ, zero, suc, ◌+◌, ◌<◌, ◌≤◌, inl, inr, refl, ap, subst, arith, ◌≢◌, ⊎_elim}
use Rattle.std.proofs.lemmas.Bool.{cases_eq}
use Rattle.timetable.specs.Lists.{sum_below}
use Rattle.timetable.proofs.Ones.{one, one_same, one_other}

pub sum_next : (f : ℕ → ℕ) (n : ℕ) → sum_below f (n + 1) ≡ sum_below f n + f n
sum_next f n = let next : n + 1 ≡ suc n = omega arith in ap (sum_below f) next

-- the first number apart
pub sum_first : (f : ℕ → ℕ) (n : ℕ) → sum_below f (suc n) ≡ f 0 + sum_below (λ k. f (suc k)) n
sum_first f zero = omega arith
sum_first f (suc n) = let rest = sum_first f n in omega arith

pub sum_same : (f g : ℕ → ℕ) (n : ℕ) → ((k : ℕ) → k < n → f k ≡ g k) → sum_below f n ≡ sum_below g n
sum_same f g zero h = refl
sum_same f g (suc n) h = let rest = sum_same f g n (λ k lt. h k (omega arith)) in let last = h n (omega arith) in omega arith

pub sum_add : (f g : ℕ → ℕ) (n : ℕ) → sum_below (λ k. f k + g k) n ≡ sum_below f n + sum_below g n
sum_add f g zero = omega arith
sum_add f g (suc n) = let rest = sum_add f g n in omega arith

pub sum_le : (f g : ℕ → ℕ) (n : ℕ) → ((k : ℕ) → k < n → f k ≤ g k) → sum_below f n ≤ sum_below g n
sum_le f g zero h = omega arith
sum_le f g (suc n) h = let rest = sum_le f g n (λ k lt. h k (omega arith)) in let last = h n (omega arith) in omega arith

pub sum_zero : (f : ℕ → ℕ) (n : ℕ) → ((k : ℕ) → k < n → f k ≡ 0) → sum_below f n ≡ 0
sum_zero f zero h = refl
sum_zero f (suc n) h = let rest = sum_zero f n (λ k lt. h k (omega arith)) in let last = h n (omega arith) in omega arith

pub sum_swap : (f : ℕ → ℕ → ℕ) (n k : ℕ) → sum_below (λ i. sum_below (λ j. f i j) k) n ≡ sum_below (λ j. sum_below (λ i. f i j) n) k
sum_swap f zero k = let none = sum_zero (λ j. 0) k (λ j lt. refl) in omega arith
sum_swap f (suc n) k = let rest = sum_swap f n k in let both = sum_add (λ j. sum_below (λ i. f i j) n) (λ j. f n j) k in omega arith

-- one number more at one place
pub sum_one_more : (f g : ℕ → ℕ) (x v n : ℕ) → x < n → f x ≡ g x + v → ((k : ℕ) → k ≢ x → f k ≡ g k) → sum_below f n ≡ sum_below g n + v
sum_one_more f g x v zero lt here other = absurd (omega arith)
sum_one_more f g x v (suc n) lt here other = ⊎_elim
    (λ (e : n ≡ x).
    let rest = sum_same f g n (λ k below. other k (λ is. absurd (omega arith))) in
    let fe = ap f e in
    let ge = ap g e in
    omega arith)
    (λ (ne : n ≢ x).
    let rest = sum_one_more f g x v n (omega arith) here other in
    let last = other n ne in
    omega arith)
    (cases_eq n x)

pub sum_less : (f g : ℕ → ℕ) (n k : ℕ) → ((i : ℕ) → f i ≤ g i) → k < n → f k < g k → sum_below f n < sum_below g n
sum_less f g zero k each below less = absurd (omega arith)
sum_less f g (suc n) k each below less = elim (cases_eq k n) [
  | inl is ↦
      let last : f n < g n = subst (λ (i : ℕ). f i < g i) is less in
      omega (arith, sum_le f g n (λ i _. each i))
  | inr differ ↦ omega (arith, sum_less f g n k each (omega arith) less, each n)
]

pub sum_ones : (n : ℕ) → sum_below (λ _. 1) n ≡ n
sum_ones zero = refl
sum_ones (suc n) = omega (arith, sum_ones n)

-- a number adds one at most
pub sum_one : (x n : ℕ) → sum_below (one x) n ≤ 1
sum_one x zero = omega arith
sum_one x (suc n) = ⊎_elim
    (λ (e : x ≡ n).
    let none = sum_zero (one x) n (λ k lt. one_other x k (λ is. absurd (omega arith))) in
    let last = one_same x n e in
    omega arith)
    (λ (ne : x ≢ n).
    let rest = sum_one x n in
    let last = one_other x n ne in
    omega arith)
    (cases_eq x n)
