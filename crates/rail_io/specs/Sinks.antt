-- What a call appended to what a sink has written. Where the sink doesn't tell after the call, nothing is said.
use Rattle.std.specs.Prelude.{◌≡◌, ℕ, ◌<◌, List, ◌++◌, length, take, Option, Some, None, ⊤}

-- the sink told before too, and exactly these bytes were appended
abbrev pub Appends : List ℕ → Option (List ℕ) → Option (List ℕ) → Type 0
Appends bytes before None = ⊤
Appends bytes None (Some after) = ⊥
Appends bytes (Some before) (Some after) = after ≡ before ++ bytes

-- the sink told before too, and some of these bytes were appended: a front, and not all of them
abbrev pub AppendsPart : List ℕ → Option (List ℕ) → Option (List ℕ) → Type 0
AppendsPart bytes before after = (n : ℕ) × (n < length bytes) × Appends (take n bytes) before after
