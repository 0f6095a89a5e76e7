-- The compositions of a day: those that fit the greatest platform of its stations, numbered in the order of the
-- catalogue.
use Rattle.std.specs.Prelude.{ℕ, List, [], ◌∷◌, max, slice_get, unwrap_or}
use Rattle.compositions.specs.Catalogue.{catalogue_of}
use Rattle.rules.specs.declared.records.Station.{Station}
use Rattle.day_tables.specs.Day.{Day}

-- the metres of the greatest platform, and 0 where there is no station
abbrev pub greatest_in : List Station → ℕ
greatest_in [] = 0
greatest_in (station ∷ stations) = max station.platform (greatest_in stations)

unfoldable pub greatest_platform : Day → ℕ
greatest_platform day = greatest_in day.stations

abbrev pub compositions_of : Day → List (List ℕ)
compositions_of day = catalogue_of day.types (greatest_platform day)

-- the types of the composition of a number, front to rear, and none where there is no such number
abbrev pub composition_at : Day → ℕ → List ℕ
composition_at day comp = unwrap_or (slice_get (compositions_of day) comp) []
