-- Lines and their words.
use Rattle.std.specs.Prelude.{ℕ, ◌≡◌, List, [], ◌∷◌, ◌++◌}
use Rattle.rail_base.specs.Names.{space}

abbrev pub line_feed : ℕ
line_feed = 10

abbrev pub minus : ℕ
minus = 45

-- words, each after a space
abbrev pub after_spaces : List (List ℕ) → List ℕ
after_spaces [] = []
after_spaces (word ∷ words) = space ∷ (word ++ after_spaces words)

-- words with one space between two
abbrev pub spaced : List (List ℕ) → List ℕ
spaced [] = []
spaced (word ∷ words) = word ++ after_spaces words

-- lines, each with its line feed
abbrev pub text_of_lines : List (List ℕ) → List ℕ
text_of_lines [] = []
text_of_lines (line ∷ lines) = line ++ (line_feed ∷ text_of_lines lines)

-- a text with lines added to it
abbrev pub Adds : List ℕ → List ℕ → List (List ℕ) → Type 0
Adds old new lines = new ≡ old ++ text_of_lines lines
