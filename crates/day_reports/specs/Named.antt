-- The names of the parts of a day, by number.
use Rattle.std.specs.Prelude.{ℕ, List, [], map, slice_get, unwrap_or}
use Rattle.timetable.specs.Day.{Day}

-- the name at a place, and an empty one where there is none
abbrev pub name_at : List (List ℕ) → ℕ → List ℕ
name_at names place = unwrap_or (slice_get names place) []

unfoldable pub type_name : Day → ℕ → List ℕ
type_name day m = name_at (map (λ t. t.name) day.types) m

unfoldable pub station_name : Day → ℕ → List ℕ
station_name day s = name_at (map (λ s. s.name) day.stations) s

unfoldable pub trip_name : Day → ℕ → List ℕ
trip_name day t = name_at (map (λ t. t.name) day.trips) t
