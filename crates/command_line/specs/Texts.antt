-- What the words after a command word say.
use Rattle.std.specs.Prelude.{ℕ, List, Option, option_map, slice_get}
use Rattle.command_line.specs.declared.taken.GivenTexts.{GivenTexts}
use Rattle.plain_words.specs.Items.{WordList}
use Rattle.command_line.specs.Parts.{Parts}

-- the first two positional words, and the value of each option
pub record Texts : Type 0 where
  pub first : Option (List ℕ)
  pub second : Option (List ℕ)
  pub nodes : Option (List ℕ)
  pub rounds : Option (List ℕ)

-- what such positional words and such values of the options say
abbrev pub said : (positional nodes rounds : WordList) → Texts
said positional nodes rounds = record {
  first = slice_get positional 0;
  second = slice_get positional 1;
  nodes = slice_get nodes 0;
  rounds = slice_get rounds 0;
}

abbrev pub texts_of : Parts → Texts
texts_of parts = said parts.positional parts.nodes parts.rounds

abbrev pub texts_in : GivenTexts → Texts
texts_in taken = record {
  first = option_map (λ text. text.now) taken.first;
  second = option_map (λ text. text.now) taken.second;
  nodes = option_map (λ text. text.now) taken.nodes;
  rounds = option_map (λ text. text.now) taken.rounds;
}
