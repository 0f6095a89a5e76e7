-- Tables of the yards: for each station and type an amount for each departure minute of the station, and one after
-- these; how they are added up, and where trips look in them.
use Rattle.std.specs.Prelude.{ℕ, ◌≡◌, ◌<◌, List, [], ◌∷◌, length, map, get_or, ℤ, pos}
use Rattle.std.specs.List.{All}
use Rattle.timetable.specs.Day.{Day, leaves, from_of, to_of, ready_at}
use Rattle.timetable.specs.Lists.{listed}
use Rattle.timetable.specs.Minutes.{minutes_of}
use Rattle.inventory.specs.CountTable.{earlier, plus}
use Rattle.price_bound.specs.declared.yard_places.YardPlace.{YardPlace}

-- ---- sums

-- the sum of all amounts
abbrev pub whole_sum : List ℤ → ℤ
whole_sum [] = pos 0
whole_sum (x ∷ xs) = plus (whole_sum xs) x

-- in place of each amount its sum with all later ones
abbrev pub later_sums : List ℤ → List ℤ
later_sums [] = []
later_sums (x ∷ xs) = whole_sum (x ∷ xs) ∷ later_sums xs

-- ---- where trips look

-- the departure of a trip, among those from its station
abbrev pub taken_at : Day → ℕ → YardPlace
taken_at day t = record {
  station = from_of day t;
  place = earlier (leaves day t) (minutes_of day (from_of day t));
}

-- the first departure when the units that a trip gives are ready
abbrev pub given_at : Day → ℕ → YardPlace
given_at day t = record {
  station = to_of day t;
  place = earlier (ready_at day t) (minutes_of day (to_of day t));
}

-- each trip has its place, at one of the day's stations
pub record ArePlaces (day : Day) (at : ℕ → YardPlace) (places : List YardPlace) : Type 0 where
  pub each : places ≡ listed at (length day.trips)
  pub known : All (λ place. place.station < length day.stations) places

-- one column of a table
abbrev pub column_of : ℕ → List (List ℤ) → List ℤ
column_of column table = map (λ row. get_or row column (pos 0)) table

-- the amounts at a place, one for each type
abbrev pub amounts_at : List (List (List ℤ)) → YardPlace → List ℤ
amounts_at yards at = column_of at.place (get_or yards at.station [])

-- a table has room for them: a row for each place, as wide as there are types; and the stations of the places are there
pub record CanLook (yards : List (List (List ℤ))) (places : List YardPlace) (table : List (List ℤ)) : Type 0 where
  pub known : All (λ place. place.station < length yards) places
  pub rows : length table ≡ length places
  pub types : All (λ types. All (λ row. length row ≡ length types) table) yards
