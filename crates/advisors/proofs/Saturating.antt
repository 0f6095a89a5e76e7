-- Sums that stop at the ends of their type are brought into a narrower range as the exact sums are.
use Rattle.std.proofs.Common.{◌≡◌, ℕ, ◌+◌, ◌^◌, ◌<◌, ◌≤◌, ℤ, pos, negsuc, ◌+ℤ◌, ◌≤ℤ◌, neg_ℤ, ◌⊎◌, inl, inr, ◌∙◌, ap}
use Rattle.std.proofs.Common.{arith, ◌-◌}
use Rattle.std.specs.Int.{int_max, int_min, saturate_to_bits}
use Rattle.std.proofs.lemmas.Bool.{cases_lt}
use Rattle.std.proofs.lemmas.Int.{ints, int_max_is, int_min_is}

-- the nearest number of 128 bits
abbrev pub nearest : ℤ → ℤ
nearest z = saturate_to_bits 127 z

-- the number of a range that is nearest
abbrev pub brought : ℤ → ℤ → ℤ → ℤ
brought least most z = int_max least (int_min z most)

-- two numbers are brought to one where they are equal or both past the same end
same_brought : (least most a b : ℤ) → least ≤ℤ most → (a ≡ b) ⊎ (((most ≤ℤ a) × (most ≤ℤ b)) ⊎ ((a ≤ℤ least) × (b ≤ℤ least))) →
    brought least most a ≡ brought least most b
same_brought least most a b order (inl same) = ap (brought least most) same
same_brought least most a b order (inr (inl (above, over))) =
    omega (arith, ints, int_min_is a most, int_min_is b most, int_max_is least (int_min a most), int_max_is least (int_min b most))
same_brought least most a b order (inr (inr (below, under))) =
    omega (arith, ints, int_min_is a most, int_min_is b most, int_max_is least (int_min a most), int_max_is least (int_min b most))

-- a number of 128 bits that is nearest to another: the same, or both are far out at one end
abbrev IsFarOut : ℤ → ℤ → Type 0
IsFarOut a b = ((pos (2 ^ 127 - 1) ≤ℤ a) × (pos (2 ^ 127 - 1) ≤ℤ b)) ⊎ ((a ≤ℤ negsuc (2 ^ 127 - 1)) × (b ≤ℤ negsuc (2 ^ 127 - 1)))

nearest-ends : (z : ℤ) → (nearest z ≡ z) ⊎ IsFarOut (nearest z) z
nearest-ends (pos n) = of (cases_lt n (2 ^ 127 - 1))
  where
    of : (n < 2 ^ 127 - 1) ⊎ (2 ^ 127 - 1 ≤ n) → (nearest (pos n) ≡ pos n) ⊎ IsFarOut (nearest (pos n)) (pos n)
    of (inl small) = inl (ap pos (omega (arith, small)))
    of (inr great) = inr (inl (omega (arith, ints, great), omega (arith, ints, great)))
nearest-ends (negsuc n) = of (cases_lt n (2 ^ 127 - 1))
  where
    of : (n < 2 ^ 127 - 1) ⊎ (2 ^ 127 - 1 ≤ n) → (nearest (negsuc n) ≡ negsuc n) ⊎ IsFarOut (nearest (negsuc n)) (negsuc n)
    of (inl small) = inl (ap negsuc (omega (arith, small)))
    of (inr great) = inr (inr (omega (arith, ints, great), omega (arith, ints, great)))

-- a range about 0 whose half is far less than the numbers of 128 bits
pub record IsNarrow (least : ℤ) (most : ℕ) : Type 0 where
  pub small : most + most < 2 ^ 127
  pub low : neg_ℤ (pos most) ≤ℤ least
  pub order : least ≤ℤ pos most

brought-nearest : (least z : ℤ) (most : ℕ) → IsNarrow least most → brought least (pos most) (nearest z) ≡ brought least (pos most) z
brought-nearest least z most narrow = same_brought least (pos most) (nearest z) z narrow.order (of (nearest-ends z))
  where
    of : (nearest z ≡ z) ⊎ IsFarOut (nearest z) z →
        (nearest z ≡ z) ⊎ (((pos most ≤ℤ nearest z) × (pos most ≤ℤ z)) ⊎ ((nearest z ≤ℤ least) × (z ≤ℤ least)))
    of (inl same) = inl same
    of (inr (inl (a, b))) = inr (inl (omega (arith, ints, a, narrow.small), omega (arith, ints, b, narrow.small)))
    of (inr (inr (a, b))) = inr (inr (omega (arith, ints, a, narrow.small, narrow.low), omega (arith, ints, b, narrow.small, narrow.low)))

brought-sum : (least z value : ℤ) (most : ℕ) → IsNarrow least most → neg_ℤ (pos most) ≤ℤ value → value ≤ℤ pos most →
    brought least (pos most) (nearest z +ℤ value) ≡ brought least (pos most) (z +ℤ value)
brought-sum least z value most narrow above below =
    same_brought least (pos most) (nearest z +ℤ value) (z +ℤ value) narrow.order (of (nearest-ends z))
  where
    of : (nearest z ≡ z) ⊎ IsFarOut (nearest z) z → ((nearest z +ℤ value) ≡ (z +ℤ value)) ⊎
        (((pos most ≤ℤ (nearest z +ℤ value)) × (pos most ≤ℤ (z +ℤ value))) ⊎ (((nearest z +ℤ value) ≤ℤ least) × ((z +ℤ value) ≤ℤ least)))
    of (inl same) = inl (ap (λ n. n +ℤ value) same)
    of (inr (inl (a, b))) = inr (inl (omega (arith, ints, a, narrow.small, above), omega (arith, ints, b, narrow.small, above)))
    of (inr (inr (a, b))) = inr (inr (omega (arith, ints, a, narrow.small, narrow.low, below), omega (arith, ints, b, narrow.small, narrow.low, below)))

pub brought-exact : (least z value : ℤ) (most : ℕ) → IsNarrow least most → neg_ℤ (pos most) ≤ℤ value → value ≤ℤ pos most →
    brought least (pos most) (nearest (nearest z +ℤ value)) ≡ brought least (pos most) (z +ℤ value)
brought-exact least z value most narrow above below =
    brought-nearest least (nearest z +ℤ value) most narrow ∙ brought-sum least z value most narrow above below
