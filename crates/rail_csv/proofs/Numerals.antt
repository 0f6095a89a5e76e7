-- Digits and the number that they spell.
use Rattle.std.proofs.Common.{◌≡◌, ℕ, ◌+◌, ◌-◌, ◌*◌, ◌^◌, ◌<◌, ◌≤◌, Bool, true, false, ◌&&◌, List, [], ◌∷◌, ◌++◌}
use Rattle.std.proofs.Common.{length, take, get_or, sym, ap, refl, ◌∙◌, arith, Some, None, if◌then◌else◌}
use Rattle.std.proofs.Math.Nat.{mul_assoc, mul-le-mul_right, pow-le-pow_right, pow-suc}
use Rattle.std.proofs.lemmas.Grind.{pow_more}
use Rattle.std.proofs.lemmas.List.{length_push, take_more, length-take}
use Rattle.std.proofs.lemmas.List.Folds.{list_all_more}
use Rattle.std.proofs.lemmas.Bool.Decides.{nat_tests}
use Rattle.std.specs.List.{list_all}
use Rattle.rail_csv.specs.declared.limits.TheConstants.{MAX_NUMBER_DIGITS, MAX_VALUE_BYTES}
use Rattle.rail_csv.specs.Fields.{are_digits, is_digit, number_of}

-- one more digit
number_push : (digits : List ℕ) (digit : ℕ) → number_of (digits ++ digit ∷ []) ≡ number_of digits * 10 + (digit - 48)
unfolding number_of
number_push [] digit = omega arith
number_push (first ∷ digits) digit =
    let power : 10 ^ length (digits ++ digit ∷ []) ≡ 10 ^ length digits * 10 = ap (λ (n : ℕ). 10 ^ n) (length_push digits digit) ∙ pow_more 10 (length digits) in
    let scaled : (first - 48) * 10 ^ length (digits ++ digit ∷ []) ≡ ((first - 48) * 10 ^ length digits) * 10 = ap (λ (n : ℕ). (first - 48) * n) power ∙ sym (mul_assoc (first - 48) (10 ^ length digits) 10) in
    let others : number_of (digits ++ digit ∷ []) ≡ number_of digits * 10 + (digit - 48) = number_push digits digit in
    omega (arith, scaled, others)

pub number_more : (text : List ℕ) (i : ℕ) → i < length text → number_of (take (i + 1) text) ≡ number_of (take i text) * 10 + (get_or text i 0 - 48)
number_more text i within = ap number_of (take_more text i 0 within) ∙ number_push (take i text) (get_or text i 0)

is_low : (digit : ℕ) (rest : Bool) → (is_digit digit && rest) ≡ true → digit - 48 ≤ 9
is_low digit rest h = grind (arith, nat_tests)

are_rest : (a b : Bool) → (a && b) ≡ true → b ≡ true
are_rest true b h = h
are_rest false b h = absurd cc

-- so many digits spell less than that power of ten
number_lt : (digits : List ℕ) → are_digits digits ≡ true → number_of digits < 10 ^ length digits
unfolding number_of
number_lt [] h = omega arith
number_lt (first ∷ digits) h =
    let others : number_of digits < 10 ^ length digits = number_lt digits (are_rest (is_digit first) (list_all is_digit digits) h) in
    let low : first - 48 ≤ 9 = is_low first (list_all is_digit digits) h in
    let scaled : (first - 48) * 10 ^ length digits ≤ 9 * 10 ^ length digits = mul-le-mul_right (10 ^ length digits) low in
    let power : 10 ^ length (first ∷ digits) ≡ 10 ^ length digits * 10 = pow-suc 10 (length digits) in
    omega (arith, others, scaled, power)

-- so many digits at most
pub number_fits : (digits : List ℕ) (n : ℕ) → length digits ≤ n → are_digits digits ≡ true → number_of digits < 10 ^ n
number_fits digits n few h =
    let power : 10 ^ length digits ≤ 10 ^ n = pow-le-pow_right (omega arith) few in
    omega (arith, number_lt digits h, power)

is_true : (b : Bool) (n value : ℕ) → (if b then Some n else None) ≡ Some value → b ≡ true
is_true true n value h = refl
is_true false n value h = absurd cc

is_value : (b : Bool) (n value : ℕ) → (if b then Some n else None) ≡ Some value → n ≡ value
is_value true n value h = cc
is_value false n value h = absurd cc

-- the value of a number
pub value_fits : (text : List ℕ) (value : ℕ) → (if are_digits text then Some (number_of text) else None) ≡ Some value
    → length text ≤ MAX_NUMBER_DIGITS → value < 1000000000
value_fits text value h few =
    let number : number_of text < 1000000000 = number_fits text 9 few (is_true (are_digits text) (number_of text) value h) in
    omega (arith, number, is_value (are_digits text) (number_of text) value h)

-- before the last digit there is room for one more
pub room : (text : List ℕ) (i : ℕ) → i < length text → length text ≤ MAX_VALUE_BYTES → are_digits (take i text) ≡ true
    → number_of (take i text) < 1000000000
room text i within few h = number_fits (take i text) 9 (omega (arith, length-take i text)) h

pub digits_more : (text : List ℕ) (i : ℕ) → i < length text → are_digits (take i text) ≡ true → is_digit (get_or text i 0) ≡ true → are_digits (take (i + 1) text) ≡ true
digits_more text i within before here = list_all_more is_digit text i 0 within ∙ ap (λ (b : Bool). b && is_digit (get_or text i 0)) before ∙ here
