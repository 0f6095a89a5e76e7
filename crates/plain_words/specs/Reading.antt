-- What stands after a command word, taken apart one word after another.
use Rattle.std.specs.Prelude.{ℕ, ◌==◌, ◌&&◌, Bool, true, nat_le, if◌then◌else◌, List, [], ◌∷◌, length}
use Rattle.std.specs.Prelude.{Option, Some, None, option_map}
use Rattle.plain_words.specs.declared.given.GivenItem.{GivenItem}
use Rattle.plain_words.specs.declared.given.GivenItem.TheVariants as given
use Rattle.plain_words.specs.declared.reading.Effect as declared
use Rattle.plain_words.specs.declared.reading.Effect.TheVariants as read
use Rattle.plain_words.specs.Items.{Alone, Form, Item, OneWord, Positional, TwoWords, WordList, has}
use Rattle.plain_words.specs.Items.{is_positional, positional_in, times}

abbrev pub item_in : GivenItem → Item
item_in (given.Positional word) = Positional word.now
item_in (given.TwoWords name value) = TwoWords name.now value.now
item_in (given.OneWord name value) = OneWord name.now value.now
item_in (given.Alone name) = Alone name.now

-- ---- one word

-- what a word does: it opens an option whose value is the next word, it gives an item, or the words are of no such form
pub data Effect : Type 0 where
  Opens : List ℕ → Effect
  Gives : Item → Effect
  Breaks : Effect

abbrev pub effect_in : declared.Effect → Effect
effect_in (read.Opens name) = Opens name.now
effect_in (read.Gives item) = Gives (item_in item)
effect_in read.Breaks = Breaks

-- what stands before the first `=` of a text, and what behind it, where there is one
abbrev pub parted : List ℕ → List ℕ × Option (List ℕ)
parted [] = ([], None)
parted (byte ∷ bytes) = if byte == 61 then ([], Some bytes) else (byte ∷ (parted bytes).0, (parted bytes).1)

-- an option of this name, with a value behind `=` or without
abbrev pub option_effect : Form → List ℕ → Option (List ℕ) → Effect
option_effect form name (Some value) = if has name form.valued then Gives (OneWord name value) else Breaks
option_effect form name None =
    if has name form.valued then Opens name else (if has name form.flags then Gives (Alone name) else Breaks)

-- a word where no option waits for its value
abbrev pub free_effect : Form → List ℕ → Effect
free_effect form [] = Breaks
free_effect form (byte ∷ bytes) =
    if byte == 45 then option_effect form (parted (byte ∷ bytes)).0 (parted (byte ∷ bytes)).1
    else Gives (Positional (byte ∷ bytes))

-- a word where an option may wait for its value
abbrev pub effect_of : Form → Option (List ℕ) → List ℕ → Effect
effect_of form (Some name) word = if is_positional word then Gives (TwoWords name word) else Breaks
effect_of form None word = free_effect form word

-- ---- the words

-- the items from a word on
abbrev pub continued : Effect → (List ℕ → Option (List Item)) → Option (List Item) → Option (List Item)
continued (Opens name) opened rest = opened name
continued (Gives item) opened rest = option_map (λ items. item ∷ items) rest
continued Breaks opened rest = None

-- the items of words, where an option may wait for its value
abbrev pub items_from : Form → Option (List ℕ) → WordList → Option (List Item)
items_from form None [] = Some []
items_from form (Some name) [] = None
items_from form waiting (word ∷ words) =
    continued (effect_of form waiting word) (λ name. items_from form (Some name) words) (items_from form None words)

-- ---- how many there are

-- each of these names is given at most once
abbrev pub are_once : WordList → List Item → Bool
are_once [] items = true
are_once (name ∷ names) items = nat_le (times name items) 1 && are_once names items

-- as many positional words as the form has, and each of its options at most once
abbrev pub is_fitting : Form → List Item → Bool
is_fitting form items = (length (positional_in items) == form.places)
    && (are_once form.valued items && are_once form.flags items)
