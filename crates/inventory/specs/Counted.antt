-- A table that holds the counts of the yards.
use Rattle.std.specs.Prelude.{ℕ, ◌+◌, ◌≡◌, ◌<◌, List, [], length, get_or, ℤ, pos}
use Rattle.timetable.specs.Day.{Day}
use Rattle.timetable.specs.Minutes.{minutes_of}
use Rattle.inventory.specs.Counts.{count_of_place, end_count_of}

-- the numbers of a station and a type, and one of them
abbrev pub counts_of : List (List (List ℤ)) → ℕ → ℕ → List ℤ
counts_of table s m = get_or (get_or table s []) m []

abbrev pub number_at : List (List (List ℤ)) → ℕ → ℕ → ℕ → ℤ
number_at table s m k = get_or (counts_of table s m) k (pos 0)

-- it has numbers for each station, each type, each departure minute and the end
pub record HasPlaces (day : Day) (table : List (List (List ℤ))) : Type 0 where
  pub stations : length table ≡ length day.stations
  pub types : (s : ℕ) → s < length day.stations → length (get_or table s []) ≡ length day.types
  pub minutes : (s m : ℕ) → s < length day.stations → m < length day.types
      → length (counts_of table s m) ≡ length (minutes_of day s) + 1

-- and these are the counts
pub record IsCountTable (day : Day) (lists : List (List ℕ)) (table : List (List (List ℤ))) : Type 0 where
  pub places : HasPlaces day table
  pub counts : (s m k : ℕ) → s < length day.stations → m < length day.types
      → k < length (minutes_of day s)
      → number_at table s m k ≡ count_of_place day lists s m k
  pub ends : (s m : ℕ) → s < length day.stations → m < length day.types
      → number_at table s m (length (minutes_of day s)) ≡ end_count_of day lists s m
