-- The first fault of the yards: a count that is negative, or, where none is, an end that is not the one that is wanted.
use Rattle.std.specs.Prelude.{ℕ, ◌≡◌, ◌≢◌, ◌<◌, ◌⊎◌, List, length, Option, MatchOption, ℤ, pos, ◌≤ℤ◌, ◌<ℤ◌}
use Rattle.timetable.specs.Day.{Day, wanted_of}
use Rattle.timetable.specs.Minutes.{minutes_of}
use Rattle.inventory.specs.declared.faults.StockFault.{StockFault}
use Rattle.inventory.specs.declared.faults.StockFault.TheVariants.{Short, Balance}
use Rattle.inventory.specs.Counts.{count_of_place, end_count_of}

-- a station and a type of the day
pub record IsYard (day : Day) (s m : ℕ) : Type 0 where
  pub station : s < length day.stations
  pub unit_type : m < length day.types

-- one yard comes before another: by station, and then by type
abbrev pub IsYardBefore : ℕ → ℕ → ℕ → ℕ → Type 0
IsYardBefore s m station unit_type = (s < station) ⊎ ((s ≡ station) × (m < unit_type))

-- no count is negative
abbrev pub NoneShort : Day → List (List ℕ) → Type 0
NoneShort day lists = (s m k : ℕ) → IsYard day s m → k < length (minutes_of day s)
    → pos 0 ≤ℤ count_of_place day lists s m k

-- every end is the one that is wanted
abbrev pub AllBalanced : Day → List (List ℕ) → Type 0
AllBalanced day lists = (s m : ℕ) → IsYard day s m → end_count_of day lists s m ≡ pos (wanted_of day s m)

-- The count is negative, and those of the yards before, and of the minutes before at its own, are not.
pub record IsFirstShort (day : Day) (lists : List (List ℕ)) (station unit_type place : ℕ) (count : ℤ) : Type 0 where
  pub yard : IsYard day station unit_type
  pub known : place < length (minutes_of day station)
  pub is : count ≡ count_of_place day lists station unit_type place
  pub negative : count <ℤ pos 0
  pub before : (s m k : ℕ) → IsYard day s m → k < length (minutes_of day s)
      → IsYardBefore s m station unit_type
      → pos 0 ≤ℤ count_of_place day lists s m k
  pub earlier : (k : ℕ) → k < place → pos 0 ≤ℤ count_of_place day lists station unit_type k

-- The end is not the one that is wanted, and those of the yards before are.
pub record IsFirstUnbalanced (day : Day) (lists : List (List ℕ)) (station unit_type : ℕ) (count : ℤ) : Type 0 where
  pub yard : IsYard day station unit_type
  pub is : count ≡ end_count_of day lists station unit_type
  pub differs : count ≢ pos (wanted_of day station unit_type)
  pub before : (s m : ℕ) → IsYard day s m → IsYardBefore s m station unit_type
      → end_count_of day lists s m ≡ pos (wanted_of day s m)

-- it is the fault that these yards have
abbrev pub IsFault : Day → List (List ℕ) → StockFault → Type 0
IsFault day lists (Short station unit_type place count) = IsFirstShort day lists station unit_type place count
IsFault day lists (Balance station unit_type count) =
    NoneShort day lists × IsFirstUnbalanced day lists station unit_type count

-- it is their first fault, or there is none
abbrev pub IsFirstFault : Day → List (List ℕ) → Option StockFault → Type 0
IsFirstFault day lists fault = MatchOption fault (NoneShort day lists × AllBalanced day lists) (IsFault day lists)
