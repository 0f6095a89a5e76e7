-- Laws of sums and products of integers: a product is taken apart over a sum, and sums are added, exchanged and found
-- to have one term.
use Rattle.std.proofs.Common.{◌≡◌, ◌≢◌, ℕ, zero, suc, ◌<◌, ◌≤◌, List, [], ◌∷◌, ◌++◌, Bool, true, false, refl, sym, ap}
use Rattle.std.proofs.Common.{◌∙◌, subst, arith, ℤ, pos, neg_ℤ, ◌+ℤ◌, ◌-ℤ◌, ◌*ℤ◌, inl, inr}
use Rattle.std.specs.Prelude.{◌==◌, if◌then◌else◌}
use Rattle.std.proofs.lemmas.Bool.{cases_eq, eq-eqb, ne_eqb}
use Rattle.std.proofs.lemmas.Int.{ints}
use lib.IntN.{ℤ_ind, suc_ℤ-*ℤ, pred_ℤ-*ℤ, +ℤ_one, -ℤ_one, zero-*ℤ}
use Rattle.branch_tree.specs.IntSums.{int_sum}

-- the sum of f over the numbers below a bound
abbrev pub int_below : (ℕ → ℤ) → ℕ → ℤ
int_below f zero = pos 0
int_below f (suc n) = int_below f n +ℤ f n

-- ---- products

next_times : (v x : ℤ) → (v +ℤ pos 1) *ℤ x ≡ v *ℤ x +ℤ x
next_times v x = ap (λ (w : ℤ). w *ℤ x) (+ℤ_one v) ∙ suc_ℤ-*ℤ v x

last_times : (v x : ℤ) → (v +ℤ neg_ℤ (pos 1)) *ℤ x ≡ v *ℤ x -ℤ x
last_times v x = ap (λ (w : ℤ). w *ℤ x) (-ℤ_one v) ∙ pred_ℤ-*ℤ v x

none_up : (s a b : ℤ) → s ≡ pos 0 → a ≡ pos 0 → b ≡ pos 0 → s ≡ a +ℤ b
none_up s a b x y z = omega (arith, ints, x, y, z)

step_up : (n s a b x y z : ℤ) → s ≡ a +ℤ b → x ≡ s +ℤ n → y +ℤ z ≡ a +ℤ b +ℤ n → x ≡ y +ℤ z
step_up n s a b x y z e f g = omega (arith, ints, e, f, g)

pub times_add : (v a b : ℤ) → v *ℤ (a +ℤ b) ≡ v *ℤ a +ℤ v *ℤ b
times_add v a b = ℤ_ind (λ (w : ℤ). w *ℤ (a +ℤ b) ≡ w *ℤ a +ℤ w *ℤ b)
    (none_up (pos 0 *ℤ (a +ℤ b)) (pos 0 *ℤ a) (pos 0 *ℤ b) (zero-*ℤ (a +ℤ b)) (zero-*ℤ a) (zero-*ℤ b))
    (λ n same. up (pos n) same)
    (λ n same. down (neg_ℤ (pos n)) same) v
  where
    both_up : (wa wb va vb a b : ℤ) → va ≡ wa +ℤ a → vb ≡ wb +ℤ b → va +ℤ vb ≡ wa +ℤ wb +ℤ (a +ℤ b)
    both_up wa wb va vb a b e f = omega (arith, ints, e, f)

    up : (w : ℤ) → w *ℤ (a +ℤ b) ≡ w *ℤ a +ℤ w *ℤ b → (w +ℤ pos 1) *ℤ (a +ℤ b) ≡ (w +ℤ pos 1) *ℤ a +ℤ (w +ℤ pos 1) *ℤ b
    up w same =
        step_up (a +ℤ b) (w *ℤ (a +ℤ b)) (w *ℤ a) (w *ℤ b) ((w +ℤ pos 1) *ℤ (a +ℤ b)) ((w +ℤ pos 1) *ℤ a) ((w +ℤ pos 1) *ℤ b) same
        (next_times w (a +ℤ b))
        (both_up (w *ℤ a) (w *ℤ b) ((w +ℤ pos 1) *ℤ a) ((w +ℤ pos 1) *ℤ b) a b (next_times w a) (next_times w b))

    both_down : (wa wb va vb a b : ℤ) → va ≡ wa -ℤ a → vb ≡ wb -ℤ b → va +ℤ vb ≡ wa +ℤ wb +ℤ neg_ℤ (a +ℤ b)
    both_down wa wb va vb a b e f = omega (arith, ints, e, f)

    down : (w : ℤ) → w *ℤ (a +ℤ b) ≡ w *ℤ a +ℤ w *ℤ b → (w +ℤ neg_ℤ (pos 1)) *ℤ (a +ℤ b) ≡ (w +ℤ neg_ℤ (pos 1)) *ℤ a +ℤ (w +ℤ neg_ℤ (pos 1)) *ℤ b
    down w same =
        step_up (neg_ℤ (a +ℤ b)) (w *ℤ (a +ℤ b)) (w *ℤ a) (w *ℤ b) ((w +ℤ neg_ℤ (pos 1)) *ℤ (a +ℤ b)) ((w +ℤ neg_ℤ (pos 1)) *ℤ a) ((w +ℤ neg_ℤ (pos 1)) *ℤ b) same
        (last_times w (a +ℤ b))
        (both_down (w *ℤ a) (w *ℤ b) ((w +ℤ neg_ℤ (pos 1)) *ℤ a) ((w +ℤ neg_ℤ (pos 1)) *ℤ b) a b (last_times w a) (last_times w b))

pub times_none : (v : ℤ) → v *ℤ pos 0 ≡ pos 0
times_none v = omega (arith, ints)

pub times_one : (v : ℤ) → v *ℤ pos 1 ≡ v
times_one v = omega (arith, ints)

-- the product with what is missing
pub times_neg : (v x : ℤ) → v *ℤ neg_ℤ x ≡ neg_ℤ (v *ℤ x)
times_neg v x = opposite (v *ℤ neg_ℤ x) (v *ℤ x) (sym (times_add v x (neg_ℤ x)) ∙ ap (λ (w : ℤ). v *ℤ w) (cancel x) ∙ times_none v)
  where
    cancel : (x : ℤ) → x +ℤ neg_ℤ x ≡ pos 0
    cancel x = omega (arith, ints)

    opposite : (a b : ℤ) → b +ℤ a ≡ pos 0 → a ≡ neg_ℤ b
    opposite a b e = omega (arith, ints, e)

-- ---- sums over a list

-- a number with none added
pub none_more : (a b : ℤ) → b ≡ pos 0 → a ≡ a +ℤ b
none_more a b e = omega (arith, ints, e)

pub sum_add : {X : Type 0} (f g : X → ℤ) (xs : List X) → int_sum (λ x. f x +ℤ g x) xs ≡ int_sum f xs +ℤ int_sum g xs
sum_add f g [] = refl
sum_add f g (x ∷ xs) = four (f x) (g x) (int_sum f xs) (int_sum g xs) (int_sum (λ y. f y +ℤ g y) xs) (sum_add f g xs)
  where
    four : (a b s t r : ℤ) → r ≡ s +ℤ t → a +ℤ b +ℤ r ≡ (a +ℤ s) +ℤ (b +ℤ t)
    four a b s t r e = omega (arith, ints, e)

pub sum_same : {X : Type 0} (f g : X → ℤ) (xs : List X) → ((x : X) → f x ≡ g x) → int_sum f xs ≡ int_sum g xs
sum_same f g [] each = refl
sum_same f g (x ∷ xs) each = ap (λ (v : ℤ). v +ℤ int_sum f xs) (each x) ∙ ap (λ (v : ℤ). g x +ℤ v) (sum_same f g xs each)

pub sum_none : {X : Type 0} (f : X → ℤ) (xs : List X) → ((x : X) → f x ≡ pos 0) → int_sum f xs ≡ pos 0
sum_none f [] each = refl
sum_none f (x ∷ xs) each = none (f x) (int_sum f xs) (each x) (sum_none f xs each)
  where
    none : (a b : ℤ) → a ≡ pos 0 → b ≡ pos 0 → a +ℤ b ≡ pos 0
    none a b e f = omega (arith, ints, e, f)

pub sum_append : {X : Type 0} (f : X → ℤ) (xs ys : List X) → int_sum f (xs ++ ys) ≡ int_sum f xs +ℤ int_sum f ys
sum_append f [] ys = none (int_sum f ys)
  where
    none : (a : ℤ) → a ≡ pos 0 +ℤ a
    none a = omega (arith, ints)
sum_append f (x ∷ xs) ys = three (f x) (int_sum f xs) (int_sum f ys) (int_sum f (xs ++ ys)) (sum_append f xs ys)
  where
    three : (a s t r : ℤ) → r ≡ s +ℤ t → a +ℤ r ≡ (a +ℤ s) +ℤ t
    three a s t r e = omega (arith, ints, e)

-- ---- sums over the numbers below a bound

pub below_add : (f g : ℕ → ℤ) (n : ℕ) → int_below (λ k. f k +ℤ g k) n ≡ int_below f n +ℤ int_below g n
below_add f g zero = refl
below_add f g (suc n) = four (int_below f n) (int_below g n) (f n) (g n) (int_below (λ k. f k +ℤ g k) n) (below_add f g n)
  where
    four : (s t a b r : ℤ) → r ≡ s +ℤ t → r +ℤ (a +ℤ b) ≡ (s +ℤ a) +ℤ (t +ℤ b)
    four s t a b r e = omega (arith, ints, e)

pub below_same : (f g : ℕ → ℤ) (n : ℕ) → ((k : ℕ) → k < n → f k ≡ g k) → int_below f n ≡ int_below g n
below_same f g zero each = refl
below_same f g (suc n) each = ap (λ (v : ℤ). v +ℤ f n) (below_same f g n (λ k lt. each k (omega (arith, lt)))) ∙ ap (λ (v : ℤ). int_below g n +ℤ v) (each n (omega arith))

pub below_none : (f : ℕ → ℤ) (n : ℕ) → ((k : ℕ) → k < n → f k ≡ pos 0) → int_below f n ≡ pos 0
below_none f zero each = refl
below_none f (suc n) each = none (int_below f n) (f n) (below_none f n (λ k lt. each k (omega (arith, lt)))) (each n (omega arith))
  where
    none : (a b : ℤ) → a ≡ pos 0 → b ≡ pos 0 → a +ℤ b ≡ pos 0
    none a b e f = omega (arith, ints, e, f)

pub below_neg : (f : ℕ → ℤ) (n : ℕ) → int_below (λ k. neg_ℤ (f k)) n ≡ neg_ℤ (int_below f n)
below_neg f zero = refl
below_neg f (suc n) = two (int_below (λ k. neg_ℤ (f k)) n) (int_below f n) (f n) (below_neg f n)
  where
    two : (r s a : ℤ) → r ≡ neg_ℤ s → r +ℤ neg_ℤ a ≡ neg_ℤ (s +ℤ a)
    two r s a e = omega (arith, ints, e)

pub below_times : (v : ℤ) (f : ℕ → ℤ) (n : ℕ) → v *ℤ int_below f n ≡ int_below (λ k. v *ℤ f k) n
below_times v f zero = times_none v
below_times v f (suc n) = times_add v (int_below f n) (f n) ∙ ap (λ (w : ℤ). w +ℤ v *ℤ f n) (below_times v f n)

-- sums over a list and below a bound are exchanged
pub below_sums : {X : Type 0} (f : X → ℕ → ℤ) (xs : List X) (n : ℕ) → int_sum (λ x. int_below (f x) n) xs ≡ int_below (λ k. int_sum (λ x. f x k) xs) n
below_sums f [] n = sym (below_none (λ k. pos 0) n (λ k lt. refl))
below_sums f (x ∷ xs) n =
    ap (λ (v : ℤ). int_below (f x) n +ℤ v) (below_sums f xs n) ∙ sym (below_add (f x) (λ k. int_sum (λ y. f y k) xs) n)

-- sums below two bounds are exchanged
pub below_below : (f : ℕ → ℕ → ℤ) (n m : ℕ) → int_below (λ k. int_below (f k) m) n ≡ int_below (λ j. int_below (λ k. f k j) n) m
below_below f zero m = sym (below_none (λ j. pos 0) m (λ j lt. refl))
below_below f (suc n) m =
    ap (λ (v : ℤ). v +ℤ int_below (f n) m) (below_below f n m) ∙ sym (below_add (λ j. int_below (λ k. f k j) n) (f n) m)

-- ---- one term

-- a value at one number, and nothing at the others
abbrev pub only_at : ℕ → ℤ → ℕ → ℤ
only_at x v k = if x == k then v else pos 0

pub only_here : (x : ℕ) (v : ℤ) → only_at x v x ≡ v
only_here x v = ap (λ (b : Bool). if b then v else pos 0) (eq-eqb x x refl)

pub only_other : (x k : ℕ) (v : ℤ) → x ≢ k → only_at x v k ≡ pos 0
only_other x k v differ = ap (λ (b : Bool). if b then v else pos 0) (ne_eqb x k differ)

pub only_beyond : (x : ℕ) (v : ℤ) (n : ℕ) → n ≤ x → int_below (only_at x v) n ≡ pos 0
only_beyond x v n past = below_none (only_at x v) n (λ k lt. only_other x k v (λ same. absurd (omega (arith, past, lt, same))))

pub only_within : (x : ℕ) (v : ℤ) (n : ℕ) → x < n → int_below (only_at x v) n ≡ v
only_within x v zero lt = absurd (omega (arith, lt))
only_within x v (suc n) lt = elim (cases_eq x n) [
  | inl same ↦ last (int_below (only_at x v) n) (only_at x v n) v (only_beyond x v n (omega (arith, same))) (subst (λ (k : ℕ). only_at x v k ≡ v) same (only_here x v))
  | inr differ ↦ first (int_below (only_at x v) n) (only_at x v n) v (only_within x v n (omega (arith, lt, differ))) (only_other x n v differ)
]
  where
    last : (a b v : ℤ) → a ≡ pos 0 → b ≡ v → a +ℤ b ≡ v
    last a b v e f = omega (arith, ints, e, f)

    first : (a b v : ℤ) → a ≡ v → b ≡ pos 0 → a +ℤ b ≡ v
    first a b v e f = omega (arith, ints, e, f)

-- a sum over numbers each of which is placed below a bound is a sum over the places
pub below_placed : (place : ℕ → ℕ) (f : ℕ → ℤ) (n m : ℕ) → ((k : ℕ) → k < n → place k < m) →
    int_below f n ≡ int_below (λ j. int_below (λ k. only_at (place k) (f k) j) n) m
below_placed place f n m within =
    below_same f (λ k. int_below (only_at (place k) (f k)) m) n (λ k lt. sym (only_within (place k) (f k) m (within k lt)))
    ∙ below_below (λ k. only_at (place k) (f k)) n m

pub sum_neg : {X : Type 0} (f : X → ℤ) (xs : List X) → int_sum (λ x. neg_ℤ (f x)) xs ≡ neg_ℤ (int_sum f xs)
sum_neg f [] = refl
sum_neg f (x ∷ xs) = two (f x) (int_sum f xs) (int_sum (λ y. neg_ℤ (f y)) xs) (sum_neg f xs)
  where
    two : (a s r : ℤ) → r ≡ neg_ℤ s → neg_ℤ a +ℤ r ≡ neg_ℤ (a +ℤ s)
    two a s r e = omega (arith, ints, e)

-- sums over two lists are exchanged
pub sum_sums : {X Y : Type 0} (f : X → Y → ℤ) (xs : List X) (ys : List Y) → int_sum (λ x. int_sum (f x) ys) xs ≡ int_sum (λ y. int_sum (λ x. f x y) xs) ys
sum_sums f [] ys = sym (sum_none (λ y. pos 0) ys (λ y. refl))
sum_sums f (x ∷ xs) ys = ap (λ (v : ℤ). int_sum (f x) ys +ℤ v) (sum_sums f xs ys) ∙ sym (sum_add (f x) (λ y. int_sum (λ z. f z y) xs) ys)

pub only_none : (x k : ℕ) → only_at x (pos 0) k ≡ pos 0
only_none x k = same_either (x == k)
  where
    same_either : (b : Bool) → (if b then pos 0 else pos 0) ≡ pos 0
    same_either true = refl
    same_either false = refl
