-- Tests on the rows of a table, in their order.
use Rattle.std.specs.Prelude.{ℕ, ◌+◌, List, [], ◌∷◌, ◌++◌, length, Result, Ok}
use Rattle.rail_base.specs.Answers.{◌>>=◌}

-- the number of the row after so many; rows are counted from 1
abbrev pub row_after : {X : Type 0} → List X → ℕ
row_after before = length before + 1

-- the rows in order, each by what those before it gave
abbrev pub accept_each : {A B E : Type 0} → (List B → A → Result B E) → List B → List A → Result (List B) E
accept_each accept before [] = Ok before
accept_each accept before (row ∷ rows) = do
  accepted ← accept before row
  accept_each accept (before ++ accepted ∷ []) rows
