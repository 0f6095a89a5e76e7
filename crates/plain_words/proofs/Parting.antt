-- The parts of a word before and behind its first `=`.
use Rattle.std.proofs.Common.{◌≡◌, ◌≢◌, ◌∙◌, ◌<◌, ℕ, Bool, true, false, List, [], ◌∷◌, ◌++◌, Option, Some, None, suc}
use Rattle.std.proofs.Common.{refl, sym, ap, arith, length, ◌⊎◌, inl, inr}
use Rattle.std.specs.Prelude.{◌==◌, ◌||◌, get_or}
use Rattle.std.proofs.lemmas.Bool.Decides.{nat_tests}
use Rattle.plain_words.specs.Items.{has_sign}
use Rattle.plain_words.specs.Reading.{parted}

pub cases : (b : Bool) → (b ≡ true) ⊎ (b ≡ false)
cases true = inl refl
cases false = inr refl

-- neither part of a disjunction holds
pub neither : (a b : Bool) → (a || b) ≡ false → (a ≡ false) × (b ≡ false)
neither true b none = absurd cc
neither false b none = (refl, none)

-- a text without the sign is its own front
pub parted_whole : (text : List ℕ) → has_sign text ≡ false → parted text ≡ (text, None)
parted_whole [] none = refl
parted_whole (byte ∷ bytes) none =
    let both = neither (byte == 61) (has_sign bytes) none in
    let rest : parted bytes ≡ (bytes, None) = parted_whole bytes both.1 in
    rw (both.0, rest) refl

-- a text without the sign is the front of what goes on with it
pub parted_front : (text value : List ℕ) → has_sign text ≡ false → parted (text ++ 61 ∷ value) ≡ (text, Some value)
parted_front [] value none = refl
parted_front (byte ∷ bytes) value none =
    let both = neither (byte == 61) (has_sign bytes) none in
    let rest : parted (bytes ++ 61 ∷ value) ≡ (bytes, Some value) = parted_front bytes value both.1 in
    rw (both.0, rest) refl

-- the front has no sign
pub front_whole : (text : List ℕ) → has_sign (parted text).0 ≡ false
front_whole [] = refl
front_whole (byte ∷ bytes) = elim (cases (byte == 61)) [
  | inl is ↦ rw is refl
  | inr not ↦ let rest : has_sign (parted bytes).0 ≡ false = front_whole bytes in rw (not, not, rest) refl
]

-- the parts together
abbrev pub joined : List ℕ → Option (List ℕ) → List ℕ
joined front None = front
joined front (Some value) = front ++ 61 ∷ value

joined_more : (byte : ℕ) (front : List ℕ) (value : Option (List ℕ)) → joined (byte ∷ front) value ≡ byte ∷ joined front value
joined_more byte front None = refl
joined_more byte front (Some value) = refl

pub parted_joined : (text : List ℕ) → text ≡ joined (parted text).0 (parted text).1
parted_joined [] = refl
parted_joined (byte ∷ bytes) = elim (cases (byte == 61)) [
  | inl is ↦ let same : byte ≡ 61 = grind (arith, nat_tests, is) in rw is (ap (λ (b : ℕ). b ∷ bytes) same)
  | inr not ↦
      rw not (ap (λ (rest : List ℕ). byte ∷ rest) (parted_joined bytes) ∙ sym (joined_more byte (parted bytes).0 (parted bytes).1))
]

-- a text of which no byte is the sign
pub no_sign : (text : List ℕ) → ((i : ℕ) → i < length text → get_or text i 0 ≢ 61) → has_sign text ≡ false
no_sign [] apart = refl
no_sign (byte ∷ bytes) apart =
    let first : byte ≢ 61 = apart 0 (omega arith) in
    let not : (byte == 61) ≡ false = grind (arith, nat_tests, first) in
    let rest : has_sign bytes ≡ false = no_sign bytes (λ i lt. apart (suc i) (omega (arith, lt))) in
    rw (not, rest) refl
