-- Bytes as pieces between marks: a document as lines, and a line as words.
use Rattle.std.specs.Prelude.{ℕ, ◌≡◌, List, [], ◌∷◌, ◌==◌, if◌then◌else◌}
use Rattle.rail_base.specs.Names.{space}

-- pieces with one more byte at the front of the first
abbrev pub with_byte : ℕ → List (List ℕ) → List (List ℕ)
with_byte byte [] = (byte ∷ []) ∷ []
with_byte byte (piece ∷ pieces) = (byte ∷ piece) ∷ pieces

-- what stands before the first mark, between two marks, and behind the last one
abbrev pub pieces : ℕ → List ℕ → List (List ℕ)
pieces mark [] = [] ∷ []
pieces mark (byte ∷ bytes) = if byte == mark then [] ∷ pieces mark bytes else with_byte byte (pieces mark bytes)

-- the pieces that follow: none at the end of the text, and else those behind a mark
abbrev pub pieces_after : ℕ → List ℕ → List (List ℕ)
pieces_after mark [] = []
pieces_after mark (byte ∷ bytes) = pieces mark bytes

-- a piece comes first of these, and then those that follow
abbrev pub IsFirst : ℕ → List (List ℕ) → List ℕ → List ℕ → Type 0
IsFirst mark all piece rest = all ≡ piece ∷ pieces_after mark rest

-- the words of a line
abbrev pub words_of : List ℕ → List (List ℕ)
words_of line = pieces space line

-- the words that follow a word
abbrev pub words_after : List ℕ → List (List ℕ)
words_after rest = pieces_after space rest
