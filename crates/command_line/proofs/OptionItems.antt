-- Items whose options are those of this crate, by their own names: which items of words they are.
use Rattle.std.specs.Prelude.{ℕ, ◌≡◌, ◌++◌, true, List, [], ◌∷◌, codes, ⊤}
use Rattle.plain_words.specs.Items.{WordList, is_positional}
use Rattle.command_line.specs.declared.form.OptionName.{OptionName}
use Rattle.command_line.specs.declared.form.OptionName.TheVariants.{Nodes, Rounds}

-- a positional word, or an option and its value, as two words (`--nodes 5`) or as one (`--nodes=5`)
pub data Item : Type 0 where
  Positional : List ℕ → Item
  TwoWords : OptionName → List ℕ → Item
  OneWord : OptionName → List ℕ → Item

abbrev pub option_name : OptionName → List ℕ
option_name Nodes = codes "--nodes"
option_name Rounds = codes "--rounds"

-- the item's words, before other words
abbrev pub item_before : Item → WordList → WordList
item_before (Positional word) words = word ∷ words
item_before (TwoWords name value) words = option_name name ∷ value ∷ words
item_before (OneWord name value) words = (option_name name ++ (codes "=" ++ value)) ∷ words

abbrev pub words_of : List Item → WordList
words_of [] = []
words_of (item ∷ items) = item_before item (words_of items)

-- a positional word, and a value that is a word of its own, is not empty and doesn't begin with `-`
abbrev pub HasItsForm : Item → Type 0
HasItsForm (Positional word) = is_positional word ≡ true
HasItsForm (TwoWords name value) = is_positional value ≡ true
HasItsForm (OneWord name value) = ⊤

abbrev pub HaveTheirForm : List Item → Type 0
HaveTheirForm [] = ⊤
HaveTheirForm (item ∷ items) = HasItsForm item × HaveTheirForm items

abbrev pub positional_before : Item → WordList → WordList
positional_before (Positional word) words = word ∷ words
positional_before (TwoWords name value) words = words
positional_before (OneWord name value) words = words

-- the positional words, in their order
abbrev pub positional_in : List Item → WordList
positional_in [] = []
positional_in (item ∷ items) = positional_before item (positional_in items)

abbrev pub value_before : OptionName → OptionName → List ℕ → WordList → WordList
value_before Nodes Nodes value values = value ∷ values
value_before Nodes Rounds value values = values
value_before Rounds Nodes value values = values
value_before Rounds Rounds value values = value ∷ values

abbrev pub values_before : OptionName → Item → WordList → WordList
values_before asked (Positional word) values = values
values_before asked (TwoWords name value) values = value_before asked name value values
values_before asked (OneWord name value) values = value_before asked name value values

-- the values that an option is given, in their order
abbrev pub values_in : OptionName → List Item → WordList
values_in asked [] = []
values_in asked (item ∷ items) = values_before asked item (values_in asked items)
