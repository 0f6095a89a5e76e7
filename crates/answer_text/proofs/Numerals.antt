-- Numbers and their texts: a word is read as a number exactly where it is the number's text.
use Rattle.std.proofs.Common.{◌≡◌, ℕ, ◌+◌, ◌*◌, ◌/◌, ◌%◌, ◌^◌, ◌<◌, ◌≤◌, Bool, true, false, ◌&&◌, cond, eqb, ltb, List}
use Rattle.std.proofs.Common.{[], ◌∷◌, ◌++◌, length, get_or, Some, None, refl, sym, ap, ◌∙◌, append_assoc, arith}
use Rattle.std.specs.Prelude.{nat_le, not}
use Rattle.std.specs.Char.{digit_value}
use Rattle.std.specs.Fmt.{decimal}
use Rattle.std.specs.Str.{all_ascii_digits}
use Rattle.std.specs.Str.Parse.{AllDigits, digits_value, digits_value_after}
use Rattle.std.proofs.lemmas.Bool.Decides.{nat_tests}
use Rattle.std.proofs.lemmas.Fmt.{decimal_digit, decimal_step_wide, decimal_by_steps_wide, decimal_is_IsNumeral_wide}
use Rattle.std.proofs.lemmas.Fmt.{length-decimal-le_wide}
use Rattle.std.proofs.lemmas.List.{append-nil, length-append, get_or_append_left}
use Rattle.std.proofs.lemmas.Str.{digit_value_digit}
use Rattle.std.proofs.lemmas.Str.Parse.{digit_from_value, digits_value_short}
use Rattle.answer_text.specs.Numbers.{has_leading_zero, is_number, number_in}
use Rattle.answer_text.proofs.Digits.{own}
use Rattle.answer_text.proofs.Splitting.{both, not_true}

-- ---- digits of a value, as `decimal` writes them

le_value_after : (n : ℕ) (ds : List ℕ) → n ≤ digits_value_after 10 n ds
le_value_after n [] = omega arith
le_value_after n (c ∷ cs) = omega (arith, le_value_after (n * 10 + digit_value c) cs)

decimal_after : (n : ℕ) (ds : List ℕ) → 0 < n → AllDigits 10 ds → digits_value_after 10 n ds < 10 ^ 64 → decimal (digits_value_after 10 n ds) ≡ decimal n ++ ds
decimal_after n [] some d small = sym (append-nil (decimal n))
decimal_after n (c ∷ cs) some d small =
    let m : ℕ = n * 10 + digit_value c in
    let k = digit_value_digit c (digit_from_value c d.0) in
    let front : m / 10 ≡ n = omega (arith, d.0) in
    let end : 48 + m % 10 ≡ c = omega (arith, d.0) in
    decimal_after m cs (omega arith) d.1 small
    ∙ ap (λ (x : List ℕ). x ++ cs) (decimal_step_wide m (omega arith) (omega (arith, le_value_after m cs, small)) ∙ (λ i. decimal (front i) ++ (end i ∷ [])))
    ∙ append_assoc (decimal n) (c ∷ []) cs

decimal_of_digits : (ds : List ℕ) → AllDigits 10 ds → 0 < length ds → (get_or ds 0 0 ≡ 48 → length ds ≡ 1) → digits_value 10 ds < 10 ^ 64 → decimal (digits_value 10 ds) ≡ ds
decimal_of_digits [] d some lead small = absurd (omega arith)
decimal_of_digits (c ∷ []) d some lead small =
    let k = digit_value_digit c (digit_from_value c d.0) in
    decimal_digit (0 * 10 + digit_value c) (omega (arith, d.0)) ∙ ap (λ (x : ℕ). x ∷ []) (omega arith)
decimal_of_digits (c ∷ e ∷ cs) d some lead small =
    let k = digit_value_digit c (digit_from_value c d.0) in
    let other : c ≡ 48 → ⊥ = λ z. omega (arith, lead z) in
    let is : 48 + (0 * 10 + digit_value c) ≡ c = omega arith in
    decimal_after (0 * 10 + digit_value c) (e ∷ cs) (omega arith) d.1 small
    ∙ ap (λ (x : List ℕ). x ++ (e ∷ cs)) (decimal_digit (0 * 10 + digit_value c) (omega (arith, d.0)) ∙ ap (λ (x : ℕ). x ∷ []) is)

-- ---- the tests of a number

not_both : (a b : Bool) → (a && b) ≡ false → a ≡ true → b ≡ false
not_both true b h e = h
not_both false b h e = absurd cc

none_and : (a : Bool) → (a && false) ≡ false
none_and true = refl
none_and false = refl

le_from : (a b : ℕ) → nat_le a b ≡ true → a ≤ b
le_from a b h = grind (arith, nat_tests)

le_to : (a b : ℕ) → a ≤ b → nat_le a b ≡ true
le_to a b h = grind (arith, nat_tests)

alone : (word : List ℕ) → has_leading_zero word ≡ false → 0 < length word → get_or word 0 0 ≡ 48 → length word ≡ 1
alone word h some zero_first =
    let long : ltb 1 (length word) ≡ false = not_both (eqb (get_or word 0 0) 48) (ltb 1 (length word)) h (rw zero_first refl) in
    grind (arith, nat_tests)

-- a number's word is its text
pub number_is : (word : List ℕ) → is_number word ≡ true → word ≡ decimal (digits_value 10 word)
number_is word h =
    let a = both (nat_le 1 (length word) && nat_le (length word) 21 && not (has_leading_zero word)) (all_ascii_digits word) h in
    let b = both (nat_le 1 (length word) && nat_le (length word) 21) (not (has_leading_zero word)) a.0 in
    let d = both (nat_le 1 (length word)) (nat_le (length word) 21) b.0 in
    let some : 1 ≤ length word = le_from 1 (length word) d.0 in
    let few : length word ≤ 21 = le_from (length word) 21 d.1 in
    let small : digits_value 10 word < 10 ^ 21 = digits_value_short own word 21 a.1 few in
    sym (decimal_of_digits word (own.to word a.1) (omega (arith, some)) (alone word (not_true (has_leading_zero word) b.1) (omega (arith, some))) (omega (arith, small)))

first_other : (byte : ℕ) (long : Bool) → 48 < byte → (eqb byte 48 && long) ≡ false
first_other byte long lt = rw (apart byte lt) refl
  where
    apart : (byte : ℕ) → 48 < byte → eqb byte 48 ≡ false
    apart byte lt = grind (arith, nat_tests)

leads : (n : ℕ) → n < 10 ^ 64 → (has_leading_zero (decimal n) ≡ false) × (0 < length (decimal n)) × (0 < n → 48 < get_or (decimal n) 0 0)
leads = decimal_by_steps_wide (λ m ds. (has_leading_zero ds ≡ false) × (0 < length ds) × (0 < m → 48 < get_or ds 0 0))
    (λ m l. (none_and (eqb (48 + m) 48), omega arith, λ a. omega arith))
    (λ m ds l h.
    let longer = length-append ds ((48 + m % 10) ∷ []) in
    let first : 48 < get_or (ds ++ ((48 + m % 10) ∷ [])) 0 0 = omega (arith, get_or_append_left ds ((48 + m % 10) ∷ []) 0 0 h.1, h.2 (omega arith)) in
    (first_other (get_or (ds ++ ((48 + m % 10) ∷ [])) 0 0) (ltb 1 (length (ds ++ ((48 + m % 10) ∷ [])))) first, omega (arith, longer), λ a. first))

all_true : (a b c d : Bool) → a ≡ true → b ≡ true → c ≡ false → d ≡ true → (a && b && not c && d) ≡ true
all_true a b c d p q r s = rw (p, q, r, s) refl

-- the text of a number up to 21 digits is its word
pub text_is : (n : ℕ) → n < 10 ^ 21 → (is_number (decimal n) ≡ true) × (digits_value 10 (decimal n) ≡ n)
text_is n small =
    let wide : n < 10 ^ 64 = omega (arith, small) in
    let spelled = decimal_is_IsNumeral_wide n wide in (
      all_true (nat_le 1 (length (decimal n))) (nat_le (length (decimal n)) 21) (has_leading_zero (decimal n)) (all_ascii_digits (decimal n))
          (le_to 1 (length (decimal n)) (omega (arith, spelled.0.0))) (le_to (length (decimal n)) 21 (length-decimal-le_wide 21 n (omega arith) small wide))
          (leads n wide).0 (own.from (decimal n) spelled.0.1),
      spelled.1,
    )

-- ---- the readers

chosen : {A : Type 0} → (b : Bool) (x y : A) → cond b (Some x) None ≡ Some y → (b ≡ true) × (x ≡ y)
chosen true x y e = (refl, cc)
chosen false x y e = absurd cc

pub number_sound : (most : ℕ) (word : List ℕ) (n : ℕ) → number_in most word ≡ Some n → (word ≡ decimal n) × (n ≤ most)
unfolding number_in
number_sound most word n e =
    let found = chosen (is_number word && nat_le (digits_value 10 word) most) (digits_value 10 word) n e in
    let tests = both (is_number word) (nat_le (digits_value 10 word) most) found.0 in
    (number_is word tests.0 ∙ ap decimal found.1, omega (arith, le_from (digits_value 10 word) most tests.1, found.1))

pub number_again : (most n : ℕ) → n ≤ most → most < 10 ^ 21 → number_in most (decimal n) ≡ Some n
unfolding number_in
number_again most n within small =
    let spelled = text_is n (omega (arith, within, small)) in
    rw (spelled.0, spelled.1, le_to n most within) refl
