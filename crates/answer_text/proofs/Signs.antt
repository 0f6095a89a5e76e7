-- Numbers with a sign and their texts.
use Rattle.std.proofs.Common.{◌≡◌, ◌≢◌, ℕ, zero, suc, ◌^◌, ◌<◌, ◌≤◌, Bool, true, false, ◌&&◌, cond, eqb, ℤ, pos, negsuc}
use Rattle.std.proofs.Common.{List, [], ◌∷◌, length, Option, Some, None, refl, subst, ◌∙◌, arith, ◌⊎◌, inl, inr}
use Rattle.std.specs.Prelude.{unsigned_abs}
use Rattle.std.specs.Char.{is_ascii_digit}
use Rattle.std.specs.Fmt.{decimal, signed_decimal}
use Rattle.std.specs.Str.{all_ascii_digits}
use Rattle.std.proofs.lemmas.Bool.Decides.{nat_tests}
use Rattle.std.proofs.lemmas.Fmt.{decimal_is_IsNumeral_wide}
use Rattle.answer_text.specs.Numbers.{◌>>=◌, nonzero_in, number_in, signed_in, signed_of}
use Rattle.answer_text.proofs.Digits.{own}
use Rattle.answer_text.proofs.Numerals.{number_sound, number_again}

-- a step that gave a value
pub bind_some : {A B : Type 0} → (r : Option A) (f : A → Option B) (y : B) → (r >>= f) ≡ Some y → (x : A) × (r ≡ Some x) × (f x ≡ Some y)
bind_some (Some x) f y e = (x, refl, e)
bind_some None f y e = absurd cc

-- a test that let a value through
pub refused : {A : Type 0} → (b : Bool) (x y : A) → cond b None (Some x) ≡ Some y → (b ≡ false) × (x ≡ y)
refused true x y e = absurd cc
refused false x y e = (refl, cc)

pub branch : {A : Type 0} → (b : Bool) (x y z : A) → cond b x y ≡ z → ((b ≡ true) × (x ≡ z)) ⊎ ((b ≡ false) × (y ≡ z))
branch true x y z e = inl (refl, e)
branch false x y z e = inr (refl, e)

pub some_is : {A : Type 0} → (x y : A) → Some x ≡ Some y → x ≡ y
some_is x y e = cc

-- a size that is not 0, with a minus before it
negative_text : (size : ℕ) → eqb size 0 ≡ false → (45 ∷ decimal size ≡ signed_decimal (signed_of true size)) × (unsigned_abs (signed_of true size) ≡ size) × (signed_of true size ≢ pos 0)
negative_text zero h = absurd cc
negative_text (suc size) h = (refl, refl, λ e. absurd cc)

not_zero : (size : ℕ) → eqb size 0 ≡ false → pos size ≢ pos 0
not_zero zero h e = absurd cc
not_zero (suc size) h e = absurd cc

positive : (size : ℕ) → eqb (suc size) 0 ≡ false
positive size = grind (arith, nat_tests)

same_byte : (byte : ℕ) → eqb byte 45 ≡ true → byte ≡ 45
same_byte byte h = grind (arith, nat_tests)

pub nonzero_sound : (most : ℕ) (word : List ℕ) (z : ℤ) → nonzero_in most word ≡ Some z → (word ≡ signed_decimal z) × (unsigned_abs z ≤ most) × (z ≢ pos 0)
unfolding nonzero_in
nonzero_sound most [] z e = absurd cc
nonzero_sound most (byte ∷ word) z e =
    elim (branch (eqb byte 45) (number_in most word >>= λ size. cond (eqb size 0) None (Some (signed_of true size))) (number_in most (byte ∷ word) >>= λ size. cond (eqb size 0) None (Some (signed_of false size))) (Some z) e) [
      | inl minus ↦
          let found = bind_some (number_in most word) (λ size. cond (eqb size 0) None (Some (signed_of true size))) z minus.1 in
          let sound = number_sound most word found.0 found.1 in
          let kept = refused (eqb found.0 0) (signed_of true found.0) z found.2 in
          let text = negative_text found.0 kept.0 in
          subst (λ (y : ℤ). (byte ∷ word ≡ signed_decimal y) × (unsigned_abs y ≤ most) × (y ≢ pos 0)) kept.1
          ((λ i. same_byte byte minus.0 i ∷ sound.0 i) ∙ text.0, omega (arith, text.1, sound.1), text.2)
      | inr plain ↦
          let found = bind_some (number_in most (byte ∷ word)) (λ size. cond (eqb size 0) None (Some (signed_of false size))) z plain.1 in
          let sound = number_sound most (byte ∷ word) found.0 found.1 in
          let kept = refused (eqb found.0 0) (signed_of false found.0) z found.2 in
          subst (λ (y : ℤ). (byte ∷ word ≡ signed_decimal y) × (unsigned_abs y ≤ most) × (y ≢ pos 0)) kept.1 (sound.0, sound.1, not_zero found.0 kept.0)
    ]

pub signed_sound : (most : ℕ) (word : List ℕ) (z : ℤ) → signed_in most word ≡ Some z → (word ≡ signed_decimal z) × (unsigned_abs z ≤ most)
unfolding signed_in
signed_sound most [] z e = absurd cc
signed_sound most (byte ∷ word) z e =
    elim (branch (eqb byte 45) (number_in most word >>= λ size. cond (eqb size 0) None (Some (signed_of true size))) (number_in most (byte ∷ word) >>= λ size. Some (signed_of false size)) (Some z) e) [
      | inl minus ↦
          let found = bind_some (number_in most word) (λ size. cond (eqb size 0) None (Some (signed_of true size))) z minus.1 in
          let sound = number_sound most word found.0 found.1 in
          let kept = refused (eqb found.0 0) (signed_of true found.0) z found.2 in
          let text = negative_text found.0 kept.0 in
          subst (λ (y : ℤ). (byte ∷ word ≡ signed_decimal y) × (unsigned_abs y ≤ most)) kept.1
          ((λ i. same_byte byte minus.0 i ∷ sound.0 i) ∙ text.0, omega (arith, text.1, sound.1))
      | inr plain ↦
          let found = bind_some (number_in most (byte ∷ word)) (λ size. Some (signed_of false size)) z plain.1 in
          let sound = number_sound most (byte ∷ word) found.0 found.1 in
          subst (λ (y : ℤ). (byte ∷ word ≡ signed_decimal y) × (unsigned_abs y ≤ most)) (some_is (signed_of false found.0) z found.2) sound
    ]

-- ---- and again

digit_first : (byte : ℕ) (rest : Bool) → (is_ascii_digit byte && rest) ≡ true → eqb byte 45 ≡ false
digit_first byte rest h = grind (arith, nat_tests)

signed_digits : (most : ℕ) (word : List ℕ) → all_ascii_digits word ≡ true → 0 < length word → signed_in most word ≡ (number_in most word >>= λ size. Some (pos size))
unfolding signed_in
signed_digits most [] digits some = absurd (omega arith)
signed_digits most (byte ∷ word) digits some = rw (digit_first byte (all_ascii_digits word) digits) refl

nonzero_digits : (most : ℕ) (word : List ℕ) → all_ascii_digits word ≡ true → 0 < length word → nonzero_in most word ≡ (number_in most word >>= λ size. cond (eqb size 0) None (Some (pos size)))
unfolding nonzero_in
nonzero_digits most [] digits some = absurd (omega arith)
nonzero_digits most (byte ∷ word) digits some = rw (digit_first byte (all_ascii_digits word) digits) refl

pub signed_again : (most : ℕ) (z : ℤ) → unsigned_abs z ≤ most → most < 10 ^ 21 → signed_in most (signed_decimal z) ≡ Some z
unfolding signed_in
signed_again most (pos n) within small =
    let spelled = decimal_is_IsNumeral_wide n (omega (arith, within, small)) in
    signed_digits most (decimal n) (own.from (decimal n) spelled.0.1) spelled.0.0 ∙ rw (number_again most n within small) refl
signed_again most (negsuc n) within small = rw (number_again most (suc n) within small, positive n) refl

pub nonzero_again : (most : ℕ) (z : ℤ) → unsigned_abs z ≤ most → most < 10 ^ 21 → z ≢ pos 0 → nonzero_in most (signed_decimal z) ≡ Some z
unfolding nonzero_in
nonzero_again most (pos zero) within small other = absurd (other refl)
nonzero_again most (pos (suc n)) within small other =
    let spelled = decimal_is_IsNumeral_wide (suc n) (omega (arith, within, small)) in
    nonzero_digits most (decimal (suc n)) (own.from (decimal (suc n)) spelled.0.1) spelled.0.0 ∙ rw (number_again most (suc n) within small, positive n) refl
nonzero_again most (negsuc n) within small other = rw (number_again most (suc n) within small, positive n) refl
