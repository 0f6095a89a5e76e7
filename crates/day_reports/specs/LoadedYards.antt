-- What the code holds while it counts in a yard.
use Rattle.std.specs.Prelude.{ℕ, ◌≡◌, ◌<◌, List, length}
use Rattle.inventory.specs.Loaded.{Loaded}
use Rattle.timetable.specs.Day.{Day}
use Rattle.timetable.specs.Picks.{ArePicks, picked}

-- the counts that were loaded are those of the picks of the day, whose stations and types these are
pub record IsLoadedYard (day : Day) (picks : List ℕ) (loaded : Loaded) (s m : ℕ) : Type 0 where
  pub are_picks : ArePicks day picks
  pub counts : loaded ≡ record { day = day; lists = picked day picks }
  pub station : s < length day.stations
  pub unit_type : m < length day.types
