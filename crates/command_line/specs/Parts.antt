-- What stands after a command word, taken apart one word after another.
use Rattle.std.specs.Prelude.{ℕ, ◌<◌, ◌+◌, ◌^◌, List, [], ◌∷◌, ◌++◌, drop, take, length, fold, Bool, true, false, not}
use Rattle.std.specs.Prelude.{◌&&◌, ◌==◌, nat_le, if◌then◌else◌, Option, Some, None, is_some, codes}
use Rattle.std.specs.Str.{bytes_eq}
use Rattle.command_line.specs.declared.form.OptionName.{OptionName}
use Rattle.command_line.specs.declared.form.OptionName.TheVariants.{Nodes, Rounds}
use Rattle.command_line.specs.declared.form.Form.{Form}
use Rattle.command_line.specs.declared.form.Form.TheVariants.{Folder, FolderSearch, DaySearch}
use Rattle.command_line.specs.declared.form.Kind.{Kind}
use Rattle.command_line.specs.declared.form.Kind.TheVariants.{Plain, Name, Whole, Other}
use Rattle.plain_words.specs.Items.{is_positional}

-- ---- one word

abbrev pub begins_with : List ℕ → List ℕ → Bool
begins_with front word = bytes_eq (take (length front) word) front

-- what a word is that is neither a plain word nor an option's name
abbrev pub whole_kind_of : List ℕ → Kind
whole_kind_of word = if begins_with (codes "--nodes=") word then Whole Nodes
    else (if begins_with (codes "--rounds=") word then Whole Rounds else Other)

-- what a word is, where no option waits for its value
abbrev pub kind_of : List ℕ → Kind
kind_of word = if is_positional word then Plain
    else (if bytes_eq word (codes "--nodes") then Name Nodes
    else (if bytes_eq word (codes "--rounds") then Name Rounds
    else (if begins_with (codes "--nodes=") word then Whole Nodes
    else (if begins_with (codes "--rounds=") word then Whole Rounds else Other))))

-- the value behind an option's name and `=`
abbrev pub value_of : OptionName → List ℕ → List ℕ
value_of Nodes word = drop 8 word
value_of Rounds word = drop 9 word

-- ---- the words, taken apart

-- the positional words in their order, the values of each option in their order, an option whose value is still to
-- come, and whether there is a word that is none of these
pub record Parts : Type 0 where
  pub positional : List (List ℕ)
  pub nodes : List (List ℕ)
  pub rounds : List (List ℕ)
  pub waiting : Option OptionName
  pub has_others : Bool

abbrev pub no_parts : Parts
no_parts = record { positional = []; nodes = []; rounds = []; waiting = None; has_others = false }

-- one more value of an option
abbrev pub with_value : OptionName → List ℕ → Parts → Parts
with_value Nodes value parts = record parts { nodes = parts.nodes ++ value ∷ [] }
with_value Rounds value parts = record parts { rounds = parts.rounds ++ value ∷ [] }

-- one more word, which is of this kind
abbrev pub stepped : Option OptionName → Kind → List ℕ → Parts → Parts
stepped (Some name) Plain word parts = with_value name word (record parts { waiting = None })
stepped None Plain word parts = record parts { positional = parts.positional ++ word ∷ [] }
stepped None (Name name) word parts = record parts { waiting = Some name }
stepped None (Whole name) word parts = with_value name (value_of name word) parts
stepped _ _ word parts = record parts { has_others = true }

unfoldable pub with_word : Parts → List ℕ → Parts
with_word parts word = stepped parts.waiting (kind_of word) word parts

abbrev pub parts_of : List (List ℕ) → Parts
parts_of words = fold with_word no_parts words

-- ---- how many there are

pub record Counts : Type 0 where
  pub positional : ℕ
  pub nodes : ℕ
  pub rounds : ℕ
  pub waiting : Option OptionName
  pub has_others : Bool

abbrev pub no_counts : Counts
no_counts = record { positional = 0; nodes = 0; rounds = 0; waiting = None; has_others = false }

abbrev pub counts_of : Parts → Counts
counts_of parts = record {
  positional = length parts.positional;
  nodes = length parts.nodes;
  rounds = length parts.rounds;
  waiting = parts.waiting;
  has_others = parts.has_others;
}

abbrev pub with_option : OptionName → Counts → Counts
with_option Nodes counts = record counts { nodes = counts.nodes + 1 }
with_option Rounds counts = record counts { rounds = counts.rounds + 1 }

abbrev pub counts_after : Option OptionName → Kind → Counts → Counts
counts_after (Some name) Plain counts = with_option name (record counts { waiting = None })
counts_after None Plain counts = record counts { positional = counts.positional + 1 }
counts_after None (Name name) counts = record counts { waiting = Some name }
counts_after None (Whole name) counts = with_option name counts
counts_after _ _ counts = record counts { has_others = true }

-- each can be counted once more
pub record HasRoom (counts : Counts) : Type 0 where
  pub positional : counts.positional + 1 < 2 ^ 64
  pub nodes : counts.nodes + 1 < 2 ^ 64
  pub rounds : counts.rounds + 1 < 2 ^ 64

-- ---- what a form wants

-- how many positional words there are
abbrev pub places : Form → ℕ
places Folder = 1
places FolderSearch = 1
places DaySearch = 2

-- how often an option may stand
abbrev pub times : Form → ℕ
times Folder = 0
times FolderSearch = 1
times DaySearch = 1

abbrev pub fitting : Form → Counts → Bool
fitting form counts = (not counts.has_others && not (is_some counts.waiting))
    && ((counts.positional == places form)
    && (nat_le counts.nodes (times form) && nat_le counts.rounds (times form)))

-- the parts are whole, and as many as the form wants
abbrev pub fits : Form → Parts → Bool
fits form parts = fitting form (counts_of parts)
