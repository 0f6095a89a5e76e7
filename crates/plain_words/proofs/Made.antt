-- The items that words are made of: what is taken apart is written so, and what is written is taken apart so.
use Rattle.std.proofs.Common.{◌≡◌, ◌∙◌, ℕ, Bool, true, false, List, [], ◌∷◌, ◌++◌, Option, Some, None, refl, sym, ap}
use Rattle.std.proofs.Common.{subst, inl, inr}
use Rattle.std.specs.Prelude.{◌==◌, not, option_map, ⊤}
use Rattle.plain_words.specs.Items.{Alone, Form, HasItsForm, HaveTheirForm, IsFlag, IsValued, Item, OneWord, Positional}
use Rattle.plain_words.specs.Items.{TwoWords, WordList, has, has_sign, is_dashed, is_positional, item_before, words_of}
use Rattle.plain_words.specs.Reading.{Breaks, Effect, Gives, Opens, continued, effect_of, free_effect, items_from}
use Rattle.plain_words.specs.Reading.{option_effect, parted}
use Rattle.plain_words.proofs.Parting.{cases, front_whole, joined, parted_front, parted_joined, parted_whole}

-- ---- what a word does

-- an option that waits for its value is one of the form's
abbrev pub IsOpen : Form → Option (List ℕ) → Type 0
IsOpen form None = ⊤
IsOpen form (Some name) = IsValued form name

-- the name of an option that waits, before other words
abbrev pub before : Option (List ℕ) → WordList → WordList
before None words = words
before (Some name) words = name ∷ words

abbrev Does : Form → Option (List ℕ) → List ℕ → Effect → Type 0
Does form waiting word (Opens name) = (waiting ≡ None) × (word ≡ name) × IsValued form name
Does form waiting word (Gives item) =
    HasItsForm form item × ((words : WordList) → before waiting (word ∷ words) ≡ item_before item words)
Does form waiting word Breaks = ⊤

dashed_front : (name more : List ℕ) → is_dashed name ≡ true → is_dashed (name ++ more) ≡ true
dashed_front [] more is = absurd cc
dashed_front (byte ∷ bytes) more is = is

dashed_back : (name value : List ℕ) → is_dashed (name ++ 61 ∷ value) ≡ true → is_dashed name ≡ true
dashed_back [] value is = absurd cc
dashed_back (byte ∷ bytes) value is = is

option_does : (form : Form) (word name : List ℕ) (value : Option (List ℕ)) → word ≡ joined name value
    → has_sign name ≡ false → is_dashed word ≡ true → Does form None word (option_effect form name value)
option_does form word name None is whole dashed =
    let own : is_dashed name ≡ true = subst (λ (w : List ℕ). is_dashed w ≡ true) is dashed in
    elim (cases (has name form.valued)) [
      | inl named ↦ let at : option_effect form name None ≡ Opens name = rw named refl in
          subst (Does form None word) (sym at)
          (refl, is, record { dashed = own; whole = whole; named = named })
      | inr no_value ↦ elim (cases (has name form.flags)) [
        | inl named ↦ let at : option_effect form name None ≡ Gives (Alone name) = rw (no_value, named) refl in
            subst (Does form None word) (sym at) (
              record { dashed = own; whole = whole; no_value = no_value; named = named },
              λ words. ap (λ (w : List ℕ). w ∷ words) is,
            )
        | inr unknown ↦ let at : option_effect form name None ≡ Breaks = rw (no_value, unknown) refl in
            subst (Does form None word) (sym at) tt
      ]
    ]
option_does form word name (Some value) is whole dashed =
    let own : is_dashed name ≡ true =
    dashed_back name value (subst (λ (w : List ℕ). is_dashed w ≡ true) is dashed) in
    elim (cases (has name form.valued)) [
      | inl named ↦ let at : option_effect form name (Some value) ≡ Gives (OneWord name value) = rw named refl in
          subst (Does form None word) (sym at)
          (record { dashed = own; whole = whole; named = named }, λ words. ap (λ (w : List ℕ). w ∷ words) is)
      | inr unknown ↦ let at : option_effect form name (Some value) ≡ Breaks = rw unknown refl in
          subst (Does form None word) (sym at) tt
    ]

dashed_effect : (form : Form) (word : List ℕ) → is_dashed word ≡ true
    → free_effect form word ≡ option_effect form (parted word).0 (parted word).1
dashed_effect form [] is = absurd cc
dashed_effect form (byte ∷ bytes) is = rw is refl

positional_effect : (form : Form) (word : List ℕ) → is_positional word ≡ true
    → free_effect form word ≡ Gives (Positional word)
positional_effect form [] is = absurd cc
positional_effect form (byte ∷ bytes) is = elim (cases (byte == 45)) [
  | inl dash ↦ let never : not true ≡ true = subst (λ (b : Bool). not b ≡ true) dash is in absurd cc
  | inr none ↦ rw none refl
]

free_does : (form : Form) (word : List ℕ) → Does form None word (free_effect form word)
free_does form [] = tt
free_does form (byte ∷ bytes) = elim (cases (byte == 45)) [
  | inl dash ↦ subst (Does form None (byte ∷ bytes)) (sym (dashed_effect form (byte ∷ bytes) dash))
      (option_does form (byte ∷ bytes) (parted (byte ∷ bytes)).0 (parted (byte ∷ bytes)).1
      (parted_joined (byte ∷ bytes)) (front_whole (byte ∷ bytes)) dash)
  | inr none ↦ let is : is_positional (byte ∷ bytes) ≡ true = ap not none in
      subst (Does form None (byte ∷ bytes)) (sym (positional_effect form (byte ∷ bytes) is)) (is, λ words. refl)
]

does : (form : Form) (waiting : Option (List ℕ)) (word : List ℕ) → IsOpen form waiting
    → Does form waiting word (effect_of form waiting word)
does form None word opened = free_does form word
does form (Some name) word opened = elim (cases (is_positional word)) [
  | inl is ↦ let at : effect_of form (Some name) word ≡ Gives (TwoWords name word) = rw is refl in
      subst (Does form (Some name) word) (sym at) ((opened, is), λ words. refl)
  | inr unknown ↦ let at : effect_of form (Some name) word ≡ Breaks = rw unknown refl in
      subst (Does form (Some name) word) (sym at) tt
]

-- ---- what is taken apart is written so

pub record IsMade (form : Form) (waiting : Option (List ℕ)) (words : WordList) (items : List Item) : Type 0 where
  pub own : HaveTheirForm form items
  pub written : before waiting words ≡ words_of items

abbrev Makes : Form → Option (List ℕ) → WordList → Type 0
Makes form waiting words =
    (items : List Item) → items_from form waiting words ≡ Some items → IsMade form waiting words items

given_made : (form : Form) (waiting : Option (List ℕ)) (word : List ℕ) (words : WordList) (item : Item)
    → Does form waiting word (Gives item) → Makes form None words → (items : List Item) (rest : Option (List Item))
    → items_from form None words ≡ rest
    → ◌≡◌ {A = Option (List Item)} (option_map (λ others. item ∷ others) rest) (Some items)
    → IsMade form waiting (word ∷ words) items
given_made form waiting word words item given makes items None same e = absurd cc
given_made form waiting word words item given makes items (Some others) same e =
    let made : IsMade form None words others = makes others same in
    let is : item ∷ others ≡ items = cc in
    subst (λ (all : List Item). IsMade form waiting (word ∷ words) all) is
    (record {
      own = (given.0, made.own);
      written = given.1 words ∙ ap (λ (after : WordList). item_before item after) made.written;
    })

step_made : (form : Form) (waiting : Option (List ℕ)) (word : List ℕ) (words : WordList) (effect : Effect)
    → Does form waiting word effect → ((name : List ℕ) → IsValued form name → Makes form (Some name) words)
    → Makes form None words → (items : List Item)
    → continued effect (λ name. items_from form (Some name) words) (items_from form None words) ≡ Some items
    → IsMade form waiting (word ∷ words) items
step_made form waiting word words Breaks given opened makes items e = absurd cc
step_made form waiting word words (Gives item) given opened makes items e =
    given_made form waiting word words item given makes items (items_from form None words) refl e
step_made form waiting word words (Opens name) given opened makes items e =
    let made : IsMade form (Some name) words items = opened name given.2 items e in
    record {
      own = made.own;
      written = ap (λ (open_one : Option (List ℕ)). before open_one (word ∷ words)) given.0
          ∙ ap (λ (w : List ℕ). w ∷ words) given.1 ∙ made.written;
    }

pub made : (form : Form) (waiting : Option (List ℕ)) (words : WordList) → IsOpen form waiting
    → Makes form waiting words
made form None [] opened items e = let is : [] ≡ items = cc in
    subst (λ (all : List Item). IsMade form None [] all) is (record { own = tt; written = refl })
made form (Some name) [] opened items e = absurd cc
made form None (word ∷ words) opened items e =
    step_made form None word words (effect_of form None word) (does form None word opened)
    (λ name valued. made form (Some name) words valued) (made form None words tt) items e
made form (Some name) (word ∷ words) opened items e =
    step_made form (Some name) word words (effect_of form (Some name) word) (does form (Some name) word opened)
    (λ other valued. made form (Some other) words valued) (made form None words tt) items e

-- ---- what is written is taken apart so

abbrev effect_at : Form → List ℕ × Option (List ℕ) → Effect
effect_at form parts = option_effect form parts.0 parts.1

opens_effect : (form : Form) (name : List ℕ) → IsValued form name → free_effect form name ≡ Opens name
opens_effect form name is =
    let named : option_effect form name None ≡ Opens name = rw is.named refl in
    dashed_effect form name is.dashed ∙ ap (effect_at form) (parted_whole name is.whole) ∙ named

alone_effect : (form : Form) (name : List ℕ) → IsFlag form name → free_effect form name ≡ Gives (Alone name)
alone_effect form name is =
    let named : option_effect form name None ≡ Gives (Alone name) = rw (is.no_value, is.named) refl in
    dashed_effect form name is.dashed ∙ ap (effect_at form) (parted_whole name is.whole) ∙ named

whole_effect : (form : Form) (name value : List ℕ) → IsValued form name
    → free_effect form (name ++ 61 ∷ value) ≡ Gives (OneWord name value)
whole_effect form name value is =
    let named : option_effect form name (Some value) ≡ Gives (OneWord name value) = rw is.named refl in
    dashed_effect form (name ++ 61 ∷ value) (dashed_front name (61 ∷ value) is.dashed)
    ∙ ap (effect_at form) (parted_front name value is.whole) ∙ named

abbrev from_here : Form → WordList → Effect → Option (List Item)
from_here form words effect =
    continued effect (λ name. items_from form (Some name) words) (items_from form None words)

pub taken : (form : Form) (items : List Item) → HaveTheirForm form items
    → items_from form None (words_of items) ≡ Some items
taken form [] own = refl
taken form (Positional word ∷ items) own =
    ap (from_here form (words_of items)) (positional_effect form word own.0)
    ∙ ap (option_map (λ others. Positional word ∷ others)) (taken form items own.1)
taken form (TwoWords name value ∷ items) own =
    let value_is : effect_of form (Some name) value ≡ Gives (TwoWords name value) = rw own.0.1 refl in
    ap (from_here form (value ∷ words_of items)) (opens_effect form name own.0.0)
    ∙ ap (from_here form (words_of items)) value_is
    ∙ ap (option_map (λ others. TwoWords name value ∷ others)) (taken form items own.1)
taken form (OneWord name value ∷ items) own =
    ap (from_here form (words_of items)) (whole_effect form name value own.0)
    ∙ ap (option_map (λ others. OneWord name value ∷ others)) (taken form items own.1)
taken form (Alone name ∷ items) own =
    ap (from_here form (words_of items)) (alone_effect form name own.0)
    ∙ ap (option_map (λ others. Alone name ∷ others)) (taken form items own.1)
