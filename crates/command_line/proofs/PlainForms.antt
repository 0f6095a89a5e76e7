-- The items that words are made of: what the words taken apart say of them.
use Rattle.std.proofs.Common.{◌≡◌, ℕ, Bool, true, false, List, [], ◌∷◌, ◌++◌, Option, Some, None, take, drop, refl}
use Rattle.std.proofs.Common.{sym, ap, subst, ◌∙◌, ◌⊎◌, inl, inr, append-nil, append_assoc, codes}
use Rattle.std.specs.Prelude.{fold, not, ◌&&◌, is_some}
use Rattle.std.specs.Str.{bytes_eq}
use Rattle.std.proofs.lemmas.Bool.{both_ways}
use Rattle.std.proofs.lemmas.List.{take-append-drop}
use Rattle.std.proofs.lemmas.Slice.Eq.{bytes_eq-Decides}
use Rattle.command_line.specs.declared.form.OptionName.{OptionName}
use Rattle.command_line.specs.declared.form.OptionName.TheVariants.{Nodes, Rounds}
use Rattle.command_line.specs.declared.form.Kind.{Kind}
use Rattle.command_line.specs.declared.form.Kind.TheVariants.{Plain, Name, Whole, Other}
use Rattle.plain_words.specs.Items.{WordList, is_positional}
use Rattle.command_line.proofs.OptionItems.{Item, Positional, TwoWords, OneWord, HaveTheirForm, option_name}
use Rattle.command_line.proofs.OptionItems.{positional_in, values_in, words_of}
use Rattle.command_line.specs.Parts.{Parts, begins_with, kind_of, stepped, with_value, with_word}

-- every word is one that a command line may have, and no option is without its value
abbrev pub is_whole : Parts → Bool
is_whole parts = not parts.has_others && not (is_some parts.waiting)

pub cases : (b : Bool) → (b ≡ true) ⊎ (b ≡ false)
cases true = inl refl
cases false = inr refl

-- parts of words that are whole so far
abbrev pub clean : (positional nodes rounds : WordList) → Parts
clean positional nodes rounds =
    record { positional = positional; nodes = nodes; rounds = rounds; waiting = None; has_others = false }

-- an option waits for its value
abbrev waits : OptionName → (positional nodes rounds : WordList) → Parts
waits name positional nodes rounds = record (clean positional nodes rounds) { waiting = Some name }

-- ---- one item

word_step : (word : List ℕ) (p n r : WordList) → is_positional word ≡ true
    → with_word (clean p n r) word ≡ clean (p ++ word ∷ []) n r
unfolding with_word
word_step word p n r holds = rw holds refl

open_step : (name : OptionName) (p n r : WordList)
    → with_word (clean p n r) (option_name name) ≡ waits name p n r
unfolding with_word
open_step Nodes p n r = refl
open_step Rounds p n r = refl

value_step : (name : OptionName) (value : List ℕ) (p n r : WordList) → is_positional value ≡ true
    → with_word (waits name p n r) value ≡ with_value name value (clean p n r)
unfolding with_word
value_step name value p n r holds = rw holds refl

name_step : (name : OptionName) (value : List ℕ) (p n r : WordList) → is_positional value ≡ true
    → with_word (with_word (clean p n r) (option_name name)) value ≡ with_value name value (clean p n r)
name_step name value p n r holds =
    ap (λ (parts : Parts). with_word parts value) (open_step name p n r) ∙ value_step name value p n r holds

whole_step : (name : OptionName) (value : List ℕ) (p n r : WordList)
    → with_word (clean p n r) (option_name name ++ (codes "=" ++ value)) ≡ with_value name value (clean p n r)
unfolding with_word
whole_step Nodes value p n r = refl
whole_step Rounds value p n r = refl

-- ---- items make these parts

pub parts_are : (items : List Item) (p n r : WordList) → HaveTheirForm items
    → fold with_word (clean p n r) (words_of items) ≡ clean (p ++ positional_in items) (n ++ values_in Nodes items)
    (r ++ values_in Rounds items)
parts_are [] p n r form = rw (append-nil p, append-nil n, append-nil r) refl
parts_are (Positional word ∷ items) p n r form =
    ap (λ (parts : Parts). fold with_word parts (words_of items)) (word_step word p n r form.0)
    ∙ parts_are items (p ++ word ∷ []) n r form.1
    ∙ ap (λ (x : WordList). clean x (n ++ values_in Nodes items) (r ++ values_in Rounds items))
    (append_assoc p (word ∷ []) (positional_in items))
parts_are (TwoWords Nodes value ∷ items) p n r form =
    ap (λ (parts : Parts). fold with_word parts (words_of items)) (name_step Nodes value p n r form.0)
    ∙ parts_are items p (n ++ value ∷ []) r form.1
    ∙ ap (λ (x : WordList). clean (p ++ positional_in items) x (r ++ values_in Rounds items))
    (append_assoc n (value ∷ []) (values_in Nodes items))
parts_are (TwoWords Rounds value ∷ items) p n r form =
    ap (λ (parts : Parts). fold with_word parts (words_of items)) (name_step Rounds value p n r form.0)
    ∙ parts_are items p n (r ++ value ∷ []) form.1
    ∙ ap (λ (x : WordList). clean (p ++ positional_in items) (n ++ values_in Nodes items) x)
    (append_assoc r (value ∷ []) (values_in Rounds items))
parts_are (OneWord Nodes value ∷ items) p n r form =
    ap (λ (parts : Parts). fold with_word parts (words_of items)) (whole_step Nodes value p n r)
    ∙ parts_are items p (n ++ value ∷ []) r form.1
    ∙ ap (λ (x : WordList). clean (p ++ positional_in items) x (r ++ values_in Rounds items))
    (append_assoc n (value ∷ []) (values_in Nodes items))
parts_are (OneWord Rounds value ∷ items) p n r form =
    ap (λ (parts : Parts). fold with_word parts (words_of items)) (whole_step Rounds value p n r)
    ∙ parts_are items p n (r ++ value ∷ []) form.1
    ∙ ap (λ (x : WordList). clean (p ++ positional_in items) (n ++ values_in Nodes items) x)
    (append_assoc r (value ∷ []) (values_in Rounds items))

-- ---- whole words are made of items

-- what a word can be
data IsOf (word : List ℕ) : Type 0 where
  IsPlain : is_positional word ≡ true → IsOf word
  IsName : (name : OptionName) → word ≡ option_name name → IsOf word
  IsWhole : (name : OptionName) (value : List ℕ) → word ≡ option_name name ++ (codes "=" ++ value) → IsOf word
  IsOther : kind_of word ≡ Other → IsOf word

front_is : (word front : List ℕ) (n : ℕ) → bytes_eq (take n word) front ≡ true → word ≡ front ++ drop n word
front_is word front n same = sym (take-append-drop n word)
    ∙ ap (λ (w : List ℕ). w ++ drop n word) ((bytes_eq-Decides (take n word) front).0 same)

kind : (word : List ℕ) → IsOf word
kind word = elim (cases (is_positional word)) [
  | inl holds ↦ IsPlain holds
  | inr no_word ↦ elim (cases (bytes_eq word (codes "--nodes"))) [
    | inl same ↦ IsName Nodes ((bytes_eq-Decides word (codes "--nodes")).0 same)
    | inr no_nodes ↦ elim (cases (bytes_eq word (codes "--rounds"))) [
      | inl same ↦ IsName Rounds ((bytes_eq-Decides word (codes "--rounds")).0 same)
      | inr no_rounds ↦ elim (cases (begins_with (codes "--nodes=") word)) [
        | inl front ↦ IsWhole Nodes (drop 8 word) (front_is word (codes "--nodes=") 8 front)
        | inr no_whole_nodes ↦ elim (cases (begins_with (codes "--rounds=") word)) [
          | inl front ↦ IsWhole Rounds (drop 9 word) (front_is word (codes "--rounds=") 9 front)
          | inr no_whole_rounds ↦ IsOther (rw (no_word, no_nodes, no_rounds, no_whole_nodes, no_whole_rounds) refl)
        ]
      ]
    ]
  ]
]

-- a word that is none of these is never forgotten
still_others : (waiting : Option OptionName) (kind : Kind) (word : List ℕ) (parts : Parts) → parts.has_others ≡ true
    → (stepped waiting kind word parts).has_others ≡ true
still_others (Some Nodes) Plain word parts h = h
still_others (Some Rounds) Plain word parts h = h
still_others (Some name) (Name other) word parts h = refl
still_others (Some name) (Whole other) word parts h = refl
still_others (Some name) Other word parts h = refl
still_others None Plain word parts h = h
still_others None (Name name) word parts h = h
still_others None (Whole Nodes) word parts h = h
still_others None (Whole Rounds) word parts h = h
still_others None Other word parts h = refl

others_stay : (words : WordList) (parts : Parts) → parts.has_others ≡ true
    → (fold with_word parts words).has_others ≡ true
unfolding with_word
others_stay [] parts h = h
others_stay (word ∷ words) parts h =
    others_stay words (with_word parts word) (still_others parts.waiting (kind_of word) word parts h)

never_whole : (words : WordList) (parts : Parts) → parts.has_others ≡ true
    → is_whole (fold with_word parts words) ≡ true → ⊥
never_whole words parts others whole =
    let stay = others_stay words parts others in
    let broken : is_whole (fold with_word parts words) ≡ false = rw stay refl in
    both_ways (is_whole (fold with_word parts words)) broken whole

never_open : (name : OptionName) (p n r : WordList) → is_whole (with_word (clean p n r) (option_name name)) ≡ true → ⊥
unfolding with_word
never_open Nodes p n r whole = absurd cc
never_open Rounds p n r whole = absurd cc

-- a word that is no value is none that may stand there
no_name : (name other : OptionName) (parts : Parts)
    → (stepped (Some name) (kind_of (option_name other)) (option_name other) parts).has_others ≡ true
no_name name Nodes parts = refl
no_name name Rounds parts = refl

no_whole : (name other : OptionName) (value : List ℕ) (parts : Parts)
    → (stepped (Some name) (kind_of (option_name other ++ (codes "=" ++ value)))
    (option_name other ++ (codes "=" ++ value)) parts).has_others ≡ true
no_whole name Nodes value parts = refl
no_whole name Rounds value parts = refl

value_or_other : (name : OptionName) (word : List ℕ) (p n r : WordList) → (is_positional word ≡ true)
    ⊎ ((with_word (waits name p n r) word).has_others ≡ true)
unfolding with_word
value_or_other name word p n r = elim (kind word) [
  | IsPlain holds ↦ inl holds
  | IsName other is ↦ inr
      (subst (λ (w : List ℕ). (stepped (Some name) (kind_of w) w (waits name p n r)).has_others ≡ true) (sym is)
      (no_name name other (waits name p n r)))
  | IsWhole other value is ↦ inr
      (subst (λ (w : List ℕ). (stepped (Some name) (kind_of w) w (waits name p n r)).has_others ≡ true) (sym is)
      (no_whole name other value (waits name p n r)))
  | IsOther is ↦ inr (ap (λ (k : Kind). (stepped (Some name) k word (waits name p n r)).has_others) is)
]

other_step : (word : List ℕ) (p n r : WordList) → kind_of word ≡ Other
    → (with_word (clean p n r) word).has_others ≡ true
unfolding with_word
other_step word p n r is = ap (λ (k : Kind). (stepped None k word (clean p n r)).has_others) is

-- the step's parts in the place of the first word
moved : (words : WordList) (before after : Parts) → before ≡ after → is_whole (fold with_word before words) ≡ true
    → is_whole (fold with_word after words) ≡ true
moved words before after same whole =
    subst (λ (parts : Parts). is_whole (fold with_word parts words) ≡ true) same whole

-- the items of words
abbrev pub Made : WordList → Type 0
Made words = (items : List Item) × HaveTheirForm items × (words ≡ words_of items)

word_made : (word : List ℕ) (words : WordList) → is_positional word ≡ true → Made words → Made (word ∷ words)
word_made word words holds rest = (Positional word ∷ rest.0, (holds, rest.1), ap (λ (w : WordList). word ∷ w) rest.2)

name_made : (word value : List ℕ) (words : WordList) (name : OptionName) → word ≡ option_name name
    → is_positional value ≡ true → Made words → Made (word ∷ value ∷ words)
name_made word value words name is holds rest = (
  TwoWords name value ∷ rest.0,
  (holds, rest.1),
  ap (λ (w : List ℕ). w ∷ value ∷ words) is ∙ ap (λ (w : WordList). option_name name ∷ value ∷ w) rest.2,
)

whole_made : (word value : List ℕ) (words : WordList) (name : OptionName)
    → word ≡ option_name name ++ (codes "=" ++ value) → Made words → Made (word ∷ words)
whole_made word value words name is rest = (
  OneWord name value ∷ rest.0,
  (tt, rest.1),
  ap (λ (w : List ℕ). w ∷ words) is ∙ ap (λ (w : WordList). (option_name name ++ (codes "=" ++ value)) ∷ w) rest.2,
)

abbrev value_parts : OptionName → List ℕ → (p n r : WordList) → WordList × WordList
value_parts Nodes value p n r = (n ++ value ∷ [], r)
value_parts Rounds value p n r = (n, r ++ value ∷ [])

with_value_is : (name : OptionName) (value : List ℕ) (p n r : WordList)
    → with_value name value (clean p n r) ≡ clean p (value_parts name value p n r).0
    (value_parts name value p n r).1
with_value_is Nodes value p n r = refl
with_value_is Rounds value p n r = refl

pub made : (words : WordList) (p n r : WordList) → is_whole (fold with_word (clean p n r) words) ≡ true → Made words
made [] p n r whole = ([], tt, refl)
made (word ∷ []) p n r whole = elim (kind word) [
  | IsPlain holds ↦ word_made word [] holds ([], tt, refl)
  | IsName name is ↦
      absurd (never_open name p n r (subst (λ (w : List ℕ). is_whole (with_word (clean p n r) w) ≡ true) is whole))
  | IsWhole name value is ↦ whole_made word value [] name is ([], tt, refl)
  | IsOther is ↦ absurd (never_whole [] (with_word (clean p n r) word) (other_step word p n r is) whole)
]
made (word ∷ next ∷ words) p n r whole = elim (kind word) [
  | IsPlain holds ↦ word_made word (next ∷ words) holds
      (made (next ∷ words) (p ++ word ∷ []) n r
      (moved (next ∷ words) (with_word (clean p n r) word) (clean (p ++ word ∷ []) n r)
      (word_step word p n r holds) whole))
  | IsName name is ↦
      let opened : with_word (with_word (clean p n r) word) next
      ≡ with_word (waits name p n r) next =
      ap (λ (w : List ℕ). with_word (with_word (clean p n r) w) next) is
      ∙ ap (λ (parts : Parts). with_word parts next) (open_step name p n r) in
      elim (value_or_other name next p n r) [
        | inl holds ↦
            name_made word next words name is holds
            (made words p (value_parts name next p n r).0 (value_parts name next p n r).1
            (moved words (with_word (with_word (clean p n r) word) next)
            (clean p (value_parts name next p n r).0 (value_parts name next p n r).1)
            (opened ∙ value_step name next p n r holds ∙ with_value_is name next p n r) whole))
        | inr others ↦ absurd
            (never_whole words (with_word (waits name p n r) next) others
            (moved words (with_word (with_word (clean p n r) word) next)
            (with_word (waits name p n r) next) opened whole))
      ]
  | IsWhole name value is ↦
      whole_made word value (next ∷ words) name is
      (made (next ∷ words) p (value_parts name value p n r).0 (value_parts name value p n r).1
      (moved (next ∷ words) (with_word (clean p n r) word)
      (clean p (value_parts name value p n r).0 (value_parts name value p n r).1)
      (ap (λ (w : List ℕ). with_word (clean p n r) w) is ∙ whole_step name value p n r
      ∙ with_value_is name value p n r) whole))
  | IsOther is ↦ absurd (never_whole (next ∷ words) (with_word (clean p n r) word) (other_step word p n r is) whole)
]
