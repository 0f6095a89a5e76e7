-- The plain form of what stands after a command word, by what is written.
use Rattle.std.specs.Prelude.{ℕ, ◌≡◌, ◌≤◌, ◌+◌, ◌++◌, ◌==◌, ◌||◌, Bool, true, false, not, if◌then◌else◌, ⊤}
use Rattle.std.specs.Prelude.{List, [], ◌∷◌, length, codes, map, Option, Some, None}
use Rattle.std.specs.Str.{bytes_eq}
use Rattle.plain_words.specs.declared.form.Form as declared

abbrev pub WordList : Type 0
WordList = List (List ℕ)

-- ---- what a command has

-- so many positional words, the names of the options that have a value, and of those that have none
pub record Form : Type 0 where
  pub places : ℕ
  pub valued : WordList
  pub flags : WordList

abbrev pub form_in : declared.Form → Form
form_in form = record {
  places = form.places;
  valued = map (λ name. name.now) form.valued.now;
  flags = map (λ name. name.now) form.flags.now;
}

-- whether a name is one of these
abbrev pub has : List ℕ → WordList → Bool
has name [] = false
has name (other ∷ names) = bytes_eq other name || has name names

-- ---- what is written

-- a positional word; an option and its value, as two words (`--nodes 5`) or as one (`--nodes=5`); or an option that has
-- no value (`--progress`)
pub data Item : Type 0 where
  Positional : List ℕ → Item
  TwoWords : List ℕ → List ℕ → Item
  OneWord : List ℕ → List ℕ → Item
  Alone : List ℕ → Item

-- the item's words, before other words
abbrev pub item_before : Item → WordList → WordList
item_before (Positional word) words = word ∷ words
item_before (TwoWords name value) words = name ∷ value ∷ words
item_before (OneWord name value) words = (name ++ (codes "=" ++ value)) ∷ words
item_before (Alone name) words = name ∷ words

abbrev pub words_of : List Item → WordList
words_of [] = []
words_of (item ∷ items) = item_before item (words_of items)

-- whether a word begins with `-`
abbrev pub is_dashed : List ℕ → Bool
is_dashed [] = false
is_dashed (byte ∷ bytes) = byte == 45

-- a word that is no option: it is not empty and doesn't begin with `-`
abbrev pub is_positional : List ℕ → Bool
is_positional [] = false
is_positional (byte ∷ bytes) = not (byte == 45)

-- whether a text has a `=`
abbrev pub has_sign : List ℕ → Bool
has_sign [] = false
has_sign (byte ∷ bytes) = (byte == 61) || has_sign bytes

-- the name of an option that has a value, and of one that has none; either begins with `-` and has no `=`
pub record IsValued (form : Form) (name : List ℕ) : Type 0 where
  pub dashed : is_dashed name ≡ true
  pub whole : has_sign name ≡ false
  pub named : has name form.valued ≡ true

pub record IsFlag (form : Form) (name : List ℕ) : Type 0 where
  pub dashed : is_dashed name ≡ true
  pub whole : has_sign name ≡ false
  pub no_value : has name form.valued ≡ false
  pub named : has name form.flags ≡ true

-- a positional word, and a value that is a word of its own, is not empty and doesn't begin with `-`; an option is one
-- of the form's
abbrev pub HasItsForm : Form → Item → Type 0
HasItsForm form (Positional word) = is_positional word ≡ true
HasItsForm form (TwoWords name value) = IsValued form name × (is_positional value ≡ true)
HasItsForm form (OneWord name value) = IsValued form name
HasItsForm form (Alone name) = IsFlag form name

abbrev pub HaveTheirForm : Form → List Item → Type 0
HaveTheirForm form [] = ⊤
HaveTheirForm form (item ∷ items) = HasItsForm form item × HaveTheirForm form items

-- ---- what is said

abbrev pub positional_before : Item → WordList → WordList
positional_before (Positional word) words = word ∷ words
positional_before (TwoWords name value) words = words
positional_before (OneWord name value) words = words
positional_before (Alone name) words = words

-- the positional words, in their order
abbrev pub positional_in : List Item → WordList
positional_in [] = []
positional_in (item ∷ items) = positional_before item (positional_in items)

abbrev pub values_before : List ℕ → Item → WordList → WordList
values_before asked (Positional word) values = values
values_before asked (TwoWords name value) values = if bytes_eq name asked then value ∷ values else values
values_before asked (OneWord name value) values = if bytes_eq name asked then value ∷ values else values
values_before asked (Alone name) values = values

-- the values that an option is given, in their order
abbrev pub values_in : List ℕ → List Item → WordList
values_in asked [] = []
values_in asked (item ∷ items) = values_before asked item (values_in asked items)

abbrev pub is_named : List ℕ → Item → Bool
is_named asked (Positional word) = false
is_named asked (TwoWords name value) = bytes_eq name asked
is_named asked (OneWord name value) = bytes_eq name asked
is_named asked (Alone name) = bytes_eq name asked

-- how often an option is given
abbrev pub times : List ℕ → List Item → ℕ
times asked [] = 0
times asked (item ∷ items) = if is_named asked item then times asked items + 1 else times asked items

-- ---- the plain form

-- The words are of the plain form, as these items: in any mixture, as many positional words as the form has, and
-- options of it, each at most once.
pub record IsPlain (form : Form) (words : WordList) (items : List Item) : Type 0 where
  pub written : words ≡ words_of items
  pub own : HaveTheirForm form items
  pub places : length (positional_in items) ≡ form.places
  pub once : (name : List ℕ) → times name items ≤ 1

-- Words that are read: the items as which they are of the plain form, and they are so as no others; or there are none.
abbrev pub ReadsForm : Form → WordList → Option (List Item) → Type 0
ReadsForm form words None = (items : List Item) → ¬ IsPlain form words items
ReadsForm form words (Some items) =
    IsPlain form words items × ((others : List Item) → IsPlain form words others → others ≡ items)
