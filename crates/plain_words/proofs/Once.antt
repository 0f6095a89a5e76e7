-- Each option is given at most once: tested at the names of the form, said of all names.
use Rattle.std.proofs.Common.{◌≡◌, ◌≤◌, ◌∙◌, ℕ, Bool, true, false, List, [], ◌∷◌, Some, None, length, refl, sym, ap}
use Rattle.std.proofs.Common.{subst, inl, inr, arith}
use Rattle.std.specs.Prelude.{◌&&◌, ◌||◌, ◌==◌, nat_le}
use Rattle.std.specs.Str.{bytes_eq}
use Rattle.std.proofs.lemmas.Bool.{and_parts, both_ways}
use Rattle.std.proofs.lemmas.Bool.Decides.{nat_tests}
use Rattle.std.proofs.lemmas.Slice.Eq.{bytes_eq-Decides}
use Rattle.plain_words.specs.Items.{Alone, Form, HaveTheirForm, IsPlain, Item, OneWord, Positional, ReadsForm}
use Rattle.plain_words.specs.Items.{TwoWords, WordList, has, positional_in, times}
use Rattle.plain_words.specs.Reading.{are_once, is_fitting, items_from}
use Rattle.plain_words.proofs.Parting.{cases}
use Rattle.plain_words.proofs.Made.{made, taken}

le_true : (a b : ℕ) → a ≤ b → nat_le a b ≡ true
le_true a b h = grind (arith, nat_tests)

le_of : (a b : ℕ) → nat_le a b ≡ true → a ≤ b
le_of a b h = grind (arith, nat_tests)

-- ---- at the names of the form

once_at : (name : List ℕ) (names : WordList) (items : List Item) → are_once names items ≡ true
    → has name names ≡ true → times name items ≤ 1
once_at name [] items once among = absurd cc
once_at name (other ∷ names) items once among =
    let both = and_parts (nat_le (times other items) 1) (are_once names items) once in
    elim (cases (bytes_eq other name)) [
      | inl same ↦ subst (λ (n : List ℕ). times n items ≤ 1) ((bytes_eq-Decides other name).0 same)
          (le_of (times other items) 1 both.0)
      | inr apart ↦ let rest : has name names ≡ true =
          subst (λ (b : Bool). (b || has name names) ≡ true) apart among in
          once_at name names items both.1 rest
    ]

pub once_back : (items : List Item) → ((name : List ℕ) → times name items ≤ 1) → (names : WordList)
    → are_once names items ≡ true
once_back items once [] = refl
once_back items once (name ∷ names) =
    let first : nat_le (times name items) 1 ≡ true = le_true (times name items) 1 (once name) in
    rw (first, once_back items once names) refl

-- ---- at other names

-- an item is of no name that its form doesn't have
unlike : (own name : List ℕ) (names : WordList) → has own names ≡ true → has name names ≡ false
    → bytes_eq own name ≡ false
unlike own name names among none = elim (cases (bytes_eq own name)) [
  | inl same ↦ absurd
      (both_ways (has name names) none
      (subst (λ (n : List ℕ). has n names ≡ true) ((bytes_eq-Decides own name).0 same) among))
  | inr apart ↦ apart
]

none_named : (form : Form) (name : List ℕ) (items : List Item) → HaveTheirForm form items
    → has name form.valued ≡ false → has name form.flags ≡ false → times name items ≡ 0
none_named form name [] own no_value no_flag = refl
none_named form name (Positional word ∷ items) own no_value no_flag = none_named form name items own.1 no_value no_flag
none_named form name (TwoWords other value ∷ items) own no_value no_flag =
    let apart : bytes_eq other name ≡ false = unlike other name form.valued own.0.0.named no_value in
    rw apart (none_named form name items own.1 no_value no_flag)
none_named form name (OneWord other value ∷ items) own no_value no_flag =
    let apart : bytes_eq other name ≡ false = unlike other name form.valued own.0.named no_value in
    rw apart (none_named form name items own.1 no_value no_flag)
none_named form name (Alone other ∷ items) own no_value no_flag =
    let apart : bytes_eq other name ≡ false = unlike other name form.flags own.0.named no_flag in
    rw apart (none_named form name items own.1 no_value no_flag)

pub once_all : (form : Form) (items : List Item) → HaveTheirForm form items → are_once form.valued items ≡ true
    → are_once form.flags items ≡ true → (name : List ℕ) → times name items ≤ 1
once_all form items own valued flags name = elim (cases (has name form.valued)) [
  | inl among ↦ once_at name form.valued items valued among
  | inr no_value ↦ elim (cases (has name form.flags)) [
    | inl among ↦ once_at name form.flags items flags among
    | inr no_flag ↦ omega (arith, none_named form name items own no_value no_flag)
  ]
]

-- ---- the plain form

plain_fits : (form : Form) (words : WordList) (items : List Item) → IsPlain form words items
    → is_fitting form items ≡ true
plain_fits form words items plain =
    let many : (length (positional_in items) == form.places) ≡ true = grind (arith, nat_tests, plain.places) in
    let valued : are_once form.valued items ≡ true = once_back items plain.once form.valued in
    let flags : are_once form.flags items ≡ true = once_back items plain.once form.flags in
    rw (many, valued, flags) refl

plain_taken : (form : Form) (words : WordList) (items : List Item) → IsPlain form words items
    → items_from form None words ≡ Some items
plain_taken form words items plain = ap (items_from form None) plain.written ∙ taken form items plain.own

-- words of which nothing is taken apart are of no plain form
pub refused : (form : Form) (words : WordList) → items_from form None words ≡ None → (items : List Item)
    → ¬ IsPlain form words items
refused form words none items plain =
    let never : None ≡ Some items = sym none ∙ plain_taken form words items plain in absurd cc

only : (form : Form) (words : WordList) (given : List Item) → items_from form None words ≡ Some given
    → (items : List Item) → IsPlain form words items → items ≡ given
only form words given found items plain =
    let same : Some items ≡ Some given = sym (plain_taken form words items plain) ∙ found in cc

-- nor are those whose items don't fit
pub unfit : (form : Form) (words : WordList) (given : List Item) → items_from form None words ≡ Some given
    → is_fitting form given ≡ false → (items : List Item) → ¬ IsPlain form words items
unfit form words given found broken items plain =
    both_ways (is_fitting form given) broken
    (ap (is_fitting form) (sym (only form words given found items plain)) ∙ plain_fits form words items plain)

pub read : (form : Form) (words : WordList) (given : List Item) → items_from form None words ≡ Some given
    → is_fitting form given ≡ true → ReadsForm form words (Some given)
read form words given found fits =
    let first = and_parts (length (positional_in given) == form.places)
    (are_once form.valued given && are_once form.flags given) fits in
    let second = and_parts (are_once form.valued given) (are_once form.flags given) first.1 in
    let is = made form None words tt given found in (
      record {
        written = is.written;
        own = is.own;
        places = grind (arith, nat_tests, first.0);
        once = once_all form given is.own second.0 second.1;
      },
      only form words given found,
    )
