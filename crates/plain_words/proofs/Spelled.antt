-- What numbers on the command line mean, and how they are read.
use Rattle.std.proofs.Common.{◌≡◌, ◌≤◌, ◌↔◌, ◌∙◌, ℕ, Bool, true, false, ◌&&◌, List, [], ◌∷◌, Option, Some, None, length}
use Rattle.std.proofs.Common.{refl, sym, ap, subst, arith, inl, inr}
use Rattle.std.specs.Prelude.{nat_le, if◌then◌else◌, slice_get}
use Rattle.std.specs.Str.{bytes_eq}
use Rattle.std.proofs.lemmas.Bool.{and_parts}
use Rattle.std.proofs.lemmas.Bool.Decides.{nat_tests}
use Rattle.rail_csv.specs.Fields.{are_digits, number_of}
use Rattle.plain_words.specs.declared.numbers.TheConstants.{MAX_WORD_DIGITS}
use Rattle.plain_words.specs.Items.{Item, Positional, TwoWords, OneWord, Alone, WordList, times, values_in}
use Rattle.plain_words.specs.Numbers.{IsNumber, IsNumberOr, IsOption, number_up_to, option_number}
use Rattle.plain_words.proofs.Parting.{cases}

pub le_true : (a b : ℕ) → a ≤ b → nat_le a b ≡ true
le_true a b h = grind (arith, nat_tests)

pub le_of : (a b : ℕ) → nat_le a b ≡ true → a ≤ b
le_of a b h = grind (arith, nat_tests)

pub if_some : {X : Type 0} (b : Bool) (x y : X) → ◌≡◌ {A = Option X} (if b then Some x else None) (Some y)
    → (b ≡ true) × (x ≡ y)
if_some true x y e = (refl, cc)
if_some false x y e = absurd cc

pub number_forth : (most : ℕ) (text : List ℕ) (number : ℕ) → IsNumber most text number
    → number_up_to most text ≡ Some number
number_forth most text number is =
    let least : nat_le 1 (length text) ≡ true = le_true 1 (length text) is.not_empty in
    let longest : nat_le (length text) MAX_WORD_DIGITS ≡ true = le_true (length text) MAX_WORD_DIGITS is.not_long in
    let fits : nat_le (number_of text) most ≡ true =
    le_true (number_of text) most (omega (arith, is.spelled, is.limit)) in
    rw (least, longest, is.digits, fits) (ap (λ (n : ℕ). Some n) is.spelled)

pub number_back : (most : ℕ) (text : List ℕ) (number : ℕ) → number_up_to most text ≡ Some number
    → IsNumber most text number
number_back most text number e =
    let found =
    if_some (nat_le 1 (length text) &&
    (nat_le (length text) MAX_WORD_DIGITS && (are_digits text && nat_le (number_of text) most))) (number_of text) number e in
    let first =
    and_parts (nat_le 1 (length text))
    (nat_le (length text) MAX_WORD_DIGITS && (are_digits text && nat_le (number_of text) most)) found.0 in
    let second = and_parts (nat_le (length text) MAX_WORD_DIGITS) (are_digits text && nat_le (number_of text) most) first.1 in
    let third = and_parts (are_digits text) (nat_le (number_of text) most) second.1 in
    let fits : number_of text ≤ most = le_of (number_of text) most third.1 in
    record {
      not_empty = le_of 1 (length text) first.0;
      not_long = le_of (length text) MAX_WORD_DIGITS second.0;
      digits = third.0;
      spelled = found.1;
      limit = omega (arith, fits, found.1);
    }

pub option_forth : (usual most : ℕ) (values : WordList) (number : ℕ) → IsOption usual most values number
    → option_number usual most (slice_get values 0) ≡ Some number
option_forth usual most [] number is = ap (λ (n : ℕ). Some n) (sym is)
option_forth usual most (text ∷ []) number is = number_forth most text number is
option_forth usual most (text ∷ again ∷ texts) number is = absurd is

pub option_back : (usual most : ℕ) (values : WordList) (number : ℕ) → length values ≤ 1
    → option_number usual most (slice_get values 0) ≡ Some number → IsOption usual most values number
option_back usual most [] number few e = cc
option_back usual most (text ∷ []) number few e = number_back most text number e
option_back usual most (text ∷ again ∷ texts) number few e = absurd (omega (arith, few))

pub option_few : (usual most : ℕ) (values : WordList) (number : ℕ) → IsOption usual most values number
    → length values ≤ 1
option_few usual most [] number is = omega arith
option_few usual most (text ∷ []) number is = omega arith
option_few usual most (text ∷ again ∷ texts) number is = absurd is

-- what is computed of a text is the number that it spells
pub means : (most : ℕ) (text : List ℕ) (read : Option ℕ) → read ≡ number_up_to most text → (spelled : ℕ)
    → (read ≡ Some spelled) ↔ IsNumber most text spelled
means most text read is spelled =
    (λ e. number_back most text spelled (sym is ∙ e), λ number. is ∙ number_forth most text spelled number)

pub or_means : (usual most : ℕ) (text : Option (List ℕ)) (read : Option ℕ) → read ≡ option_number usual most text
    → (given : ℕ) → (read ≡ Some given) ↔ IsNumberOr usual most text given
or_means usual most None read is given =
    (λ e. let same : Some given ≡ Some usual = sym e ∙ is in cc, λ same. is ∙ ap (λ (n : ℕ). Some n) (sym same))
or_means usual most (Some text) read is given = means most text read is given

-- ---- an option of the words

-- an option has no more values than it is given times
values_few : (name : List ℕ) (items : List Item) → length (values_in name items) ≤ times name items
values_few name [] = omega arith
values_few name (Positional word ∷ items) = values_few name items
values_few name (TwoWords own value ∷ items) = elim (cases (bytes_eq own name)) [
  | inl same ↦ rw same (omega (arith, values_few name items))
  | inr apart ↦ rw apart (values_few name items)
]
values_few name (OneWord own value ∷ items) = elim (cases (bytes_eq own name)) [
  | inl same ↦ rw same (omega (arith, values_few name items))
  | inr apart ↦ rw apart (values_few name items)
]
values_few name (Alone own ∷ items) = elim (cases (bytes_eq own name)) [
  | inl same ↦ rw same (omega (arith, values_few name items))
  | inr apart ↦ rw apart (values_few name items)
]

first_means : (usual most : ℕ) (values : WordList) (given : ℕ) → length values ≤ 1
    → IsNumberOr usual most (slice_get values 0) given ↔ IsOption usual most values given
first_means usual most [] given few = (λ is. is, λ is. is)
first_means usual most (text ∷ []) given few = (λ is. is, λ is. is)
first_means usual most (text ∷ again ∷ texts) given few = absurd (omega (arith, few))

-- the number of the first value is that of the option, which is given once at most
pub option_means : (name : List ℕ) (items : List Item) (usual most : ℕ) (text : Option (List ℕ)) (read : Option ℕ)
    → times name items ≤ 1 → text ≡ slice_get (values_in name items) 0
    → ((given : ℕ) → (read ≡ Some given) ↔ IsNumberOr usual most text given) → (given : ℕ)
    → (read ≡ Some given) ↔ IsOption usual most (values_in name items) given
option_means name items usual most text read once first means given =
    let few : length (values_in name items) ≤ 1 = omega (arith, values_few name items, once) in
    let so : IsNumberOr usual most text given ↔ IsOption usual most (values_in name items) given =
    subst (λ (t : Option (List ℕ)). IsNumberOr usual most t given ↔ IsOption usual most (values_in name items) given)
    (sym first) (first_means usual most (values_in name items) given few) in
    (λ e. so.0 ((means given).0 e), λ is. (means given).1 (so.1 is))
