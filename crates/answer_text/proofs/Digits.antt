-- Texts of digits, one digit after the other.
use Rattle.std.proofs.Common.{◌≡◌, ℕ, zero, suc, ◌+◌, ◌^◌, ◌<◌, ◌≤◌, Bool, true, false, ◌&&◌, List, [], ◌∷◌, length}
use Rattle.std.proofs.Common.{get_or, take, refl, add-one, arith}
use Rattle.std.specs.Char.{is_ascii_digit}
use Rattle.std.specs.Str.{all_ascii_digits}
use Rattle.std.specs.Str.Parse.{digits_value}
use Rattle.std.proofs.lemmas.List.{length-take}
use Rattle.std.proofs.lemmas.Str.Parse.{IsNumeralModel, numerals_by_value, tells_all_ascii_digits, digits_value_short}

-- digits by the test, and their value
pub own : IsNumeralModel (λ ds. all_ascii_digits ds ≡ true) (digits_value 10)
own = numerals_by_value _ tells_all_ascii_digits

digits_more-suc : (text : List ℕ) (i : ℕ) → i < length text → all_ascii_digits (take i text) ≡ true → is_ascii_digit (get_or text i 0) ≡ true → all_ascii_digits (take (suc i) text) ≡ true
digits_more-suc [] i within before here = absurd (omega (arith, within))
digits_more-suc (c ∷ text) zero within before here = rw here refl
digits_more-suc (c ∷ text) (suc i) within before here =
    let first = both_first (is_ascii_digit c) (all_ascii_digits (take i text)) before in
    let rest = both_rest (is_ascii_digit c) (all_ascii_digits (take i text)) before in
    rw (first, digits_more-suc text i (omega (arith, within)) rest here) refl
  where
    both_first : (a b : Bool) → (a && b) ≡ true → a ≡ true
    both_first true b h = refl
    both_first false b h = absurd cc

    both_rest : (a b : Bool) → (a && b) ≡ true → b ≡ true
    both_rest true b h = h
    both_rest false b h = absurd cc

pub digits_more : (text : List ℕ) (i : ℕ) → i < length text → all_ascii_digits (take i text) ≡ true → is_ascii_digit (get_or text i 0) ≡ true → all_ascii_digits (take (i + 1) text) ≡ true
digits_more text i within before here = rw add-one (digits_more-suc text i within before here)

-- a text with a byte that is no digit
pub not_digits : (text : List ℕ) (i : ℕ) → i < length text → is_ascii_digit (get_or text i 0) ≡ false → all_ascii_digits text ≡ false
not_digits [] i within here = absurd (omega (arith, within))
not_digits (c ∷ text) zero within here = rw here refl
not_digits (c ∷ text) (suc i) within here = rw (not_digits text i (omega (arith, within)) here) (none (is_ascii_digit c))
  where
    none : (a : Bool) → (a && false) ≡ false
    none true = refl
    none false = refl

-- before the last digit there is room for one more
pub room : (text : List ℕ) (i : ℕ) → i < length text → length text ≤ 21 → all_ascii_digits (take i text) ≡ true → digits_value 10 (take i text) < 10 ^ 20
room text i within few digits = digits_value_short own (take i text) 20 digits (omega (arith, length-take i text))
