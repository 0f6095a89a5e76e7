-- How many units of a type stand at a station at the start of the day.
use Rattle.std.specs.Prelude.{ℕ, List, [], ◌∷◌, ◌==◌, ◌&&◌, if◌then◌else◌}
use Rattle.rules.specs.declared.records.Stock.{Stock}
use Rattle.timetable.specs.Day.{Day}

-- none where no stock row says it
abbrev pub start_in : List Stock → ℕ → ℕ → ℕ
start_in [] s m = 0
start_in (row ∷ rows) s m = if (row.station == s) && (row.unit_type == m) then row.start else start_in rows s m

unfoldable pub start_of : Day → ℕ → ℕ → ℕ
start_of day s m = start_in day.stock s m
