-- The lines that tell of a file that was not taken, each with its line feed.
use Rattle.std.specs.Prelude.{ℕ, List, [], ◌∷◌, ◌++◌, codes}

abbrev pub line_end : List ℕ
line_end = 10 ∷ []

-- a file is refused, by its name and why
abbrev pub file_refused_line : List ℕ → List ℕ → List ℕ
file_refused_line file why = codes "refused " ++ (file ++ (codes ": " ++ (why ++ line_end)))

-- a file is refused, by its name alone
abbrev pub file_refused_alone_line : List ℕ → List ℕ
file_refused_alone_line file = codes "refused " ++ (file ++ line_end)

-- a file could not be read, by its name
abbrev pub file_unread_line : List ℕ → List ℕ
file_unread_line file = codes "cannot read " ++ (file ++ line_end)
