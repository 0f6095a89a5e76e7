-- The text of a time: two digits of the hour, a colon, two digits of the minute.
use Rattle.std.specs.Prelude.{ℕ, List, [], ◌∷◌, ◌++◌, ◌+◌, ◌/◌, ◌%◌}

-- two digits of a number below 100
abbrev pub two_digits : ℕ → List ℕ
two_digits n = (48 + n / 10) ∷ (48 + n % 10) ∷ []

abbrev pub colon : ℕ
colon = 58

-- the text of the minutes since the first midnight
abbrev pub clock_text : ℕ → List ℕ
clock_text minute = two_digits (minute / 60) ++ colon ∷ two_digits (minute % 60)
