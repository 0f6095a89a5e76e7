-- Sums and products of integers, and how large they are.
use Rattle.std.proofs.Common.{◌≡◌, ℕ, ◌+◌, ◌*◌, ◌<◌, ◌≤◌, List, [], ◌∷◌, ◌++◌, length, take, get_or, ℤ, pos, negsuc}
use Rattle.std.proofs.Common.{neg_ℤ, ◌+ℤ◌, ◌*ℤ◌, ◌≤ℤ◌, sym, ◌∙◌, ap, subst, arith}
use Rattle.std.specs.Int.{w128}
use Rattle.std.specs.Prelude.{unsigned_abs}
use Rattle.std.proofs.Common.{◌^◌, to_z, of_z, w64, FitsSigned}
use Rattle.std.proofs.lemmas.Int.{ints, unsigned_abs-mul, to_z-of_z, fits_signed_from_abs, fits_signed_mul}
use Rattle.std.proofs.lemmas.List.{take_more}
use Rattle.std.proofs.Math.Nat.{mul-le-mul}
use Rattle.rail_base.specs.declared.limits.TheConstants.{MAX_MULTIPLIER}
use Rattle.branch_tree.specs.IntSums.{int_sum}

-- ---- sizes

above_least : (z : ℤ) → neg_ℤ (pos (unsigned_abs z)) ≤ℤ z
above_least (pos n) = omega (arith, ints)
above_least (negsuc n) = omega (arith, ints)

below_most : (z : ℤ) → z ≤ℤ pos (unsigned_abs z)
below_most (pos n) = omega (arith, ints)
below_most (negsuc n) = omega (arith, ints)

pub size_within : (z : ℤ) (n : ℕ) → neg_ℤ (pos n) ≤ℤ z → z ≤ℤ pos n → unsigned_abs z ≤ n
size_within (pos m) n least most = omega (arith, ints, most)
size_within (negsuc m) n least most = omega (arith, ints, least)

pub size_of_sum : (a b : ℤ) (m n : ℕ) → unsigned_abs a ≤ m → unsigned_abs b ≤ n → unsigned_abs (a +ℤ b) ≤ m + n
size_of_sum a b m n few_a few_b =
    let least_a = above_least a in let most_a = below_most a in let least_b = above_least b in let most_b = below_most b in
    size_within (a +ℤ b) (m + n) (omega (arith, ints, few_a, few_b, least_a, least_b)) (omega (arith, ints, few_a, few_b, most_a, most_b))

pub size_of_product : (a b : ℤ) (m n : ℕ) → unsigned_abs a ≤ m → unsigned_abs b ≤ n → unsigned_abs (a *ℤ b) ≤ m * n
size_of_product a b m n few_a few_b = subst (λ (k : ℕ). k ≤ m * n) (sym (unsigned_abs-mul a b)) (mul-le-mul few_a few_b)

-- ---- sums

int_sum_push : {X : Type 0} (f : X → ℤ) (xs : List X) (y : X) → int_sum f (xs ++ y ∷ []) ≡ int_sum f xs +ℤ f y
int_sum_push f [] y = let v : ℤ = f y in omega (arith, ints)
int_sum_push f (x ∷ xs) y = let rest = int_sum_push f xs y in omega (arith, ints, rest)

pub int_sum_more : {X : Type 0} (f : X → ℤ) (xs : List X) (i : ℕ) (d : X) → i < length xs → int_sum f (take (i + 1) xs) ≡ int_sum f (take i xs) +ℤ f (get_or xs i d)
int_sum_more f xs i d below = ap (int_sum f) (take_more xs i d below) ∙ int_sum_push f (take i xs) (get_or xs i d)

-- ---- products of i128

module _ (value slack : ℤ) (small : unsigned_abs value ≤ MAX_MULTIPLIER) (few : unsigned_abs slack ≤ 2 ^ 64) where
  pub product_fits : FitsSigned w128 (value *ℤ slack)
  product_fits = fits_signed_mul w128 value slack MAX_MULTIPLIER (2 ^ 64) small few (omega arith)

  pub factors_are : (read : ℤ) → read ≡ to_z w64 (of_z w64 value) → (to_z w128 (of_z w128 read) *ℤ to_z w128 (of_z w128 slack)) ≡ value *ℤ slack
  factors_are read is =
      let fits_value : FitsSigned w64 value = fits_signed_from_abs w64 value (omega (arith, small)) in
      let same : read ≡ value = is ∙ to_z-of_z w64 value fits_value in
      let wide : to_z w128 (of_z w128 value) ≡ value = to_z-of_z w128 value (fits_signed_from_abs w128 value (omega (arith, small))) in
      let slack_is : to_z w128 (of_z w128 slack) ≡ slack = to_z-of_z w128 slack (fits_signed_from_abs w128 slack (omega (arith, few))) in
      ap (λ (a : ℤ). to_z w128 (of_z w128 a) *ℤ to_z w128 (of_z w128 slack)) same ∙ ap (λ (a : ℤ). a *ℤ to_z w128 (of_z w128 slack)) wide ∙ ap (λ (b : ℤ). value *ℤ b) slack_is

  pub product_is : (read : ℤ) → read ≡ to_z w64 (of_z w64 value) → to_z w128 (of_z w128 (to_z w128 (of_z w128 read) *ℤ to_z w128 (of_z w128 slack))) ≡ value *ℤ slack
  product_is read is = ap (λ (z : ℤ). to_z w128 (of_z w128 z)) (factors_are read is) ∙ to_z-of_z w128 (value *ℤ slack) product_fits
