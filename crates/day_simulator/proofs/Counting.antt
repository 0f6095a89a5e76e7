-- Counting in a loop, and the first that differs in one.
use Rattle.std.proofs.Common.{◌≡◌, ℕ, suc, ◌+◌, Bool, true, false, cond, ap, arith}
use Rattle.timetable.specs.Lists.{count_below}

-- one more number that counts, or doesn't
pub count_below-more : (p : ℕ → Bool) (n : ℕ) → count_below p (n + 1) ≡ count_below p n + cond (p n) 1 0
count_below-more p n = let next : n + 1 ≡ suc n = omega arith in ap (count_below p) next

pub counted : (p : ℕ → Bool) (n count : ℕ) → count ≡ count_below p n → p n ≡ true → count + 1 ≡ count_below p (n + 1)
counted p n count so_far passes = let one : cond (p n) 1 0 ≡ 1 = ap (λ (b : Bool). cond {A = ℕ} b 1 0) passes in omega (arith, count_below-more p n, one)

pub not_counted : (p : ℕ → Bool) (n count : ℕ) → count ≡ count_below p n → p n ≡ false → count ≡ count_below p (n + 1)
not_counted p n count so_far fails = let none : cond (p n) 1 0 ≡ 0 = ap (λ (b : Bool). cond {A = ℕ} b 1 0) fails in omega (arith, count_below-more p n, none)
