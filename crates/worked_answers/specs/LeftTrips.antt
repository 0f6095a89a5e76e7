-- The day without some trips: that it is as the laws on days ask for it, and how its trips run.
use Rattle.std.specs.Prelude.{ℕ, ◌≡◌, ◌<◌, List, length, false, Ok}
use Rattle.day_tables.specs.declared.building.tables.Tables.{Tables}
use Rattle.timetable.specs.Accepted.{IsSoundDay}
use Rattle.timetable.specs.Build.{day_of}
use Rattle.timetable.specs.Cost.{trip_cost}
use Rattle.timetable.specs.Day.{Day, leaves, arrives, from_of, to_of}
use Rattle.timetable.specs.DayTables.{AreTables}
use Rattle.timetable.specs.DerivedDays.{old_number, without_trips}
use Rattle.timetable.specs.Lists.{has}

-- Where tables whose rows keep within the ranges of their columns make a day, that day is sound without any of its
-- trips.
abbrev pub DaysWithoutAreSound : Type 0
DaysWithoutAreSound = (tables : Tables) (day : Day) (gone : List ℕ) → AreTables tables → day_of tables ≡ Ok day
    → IsSoundDay (without_trips gone day)

-- a trip runs when and where it did, and costs the same with each composition
pub record RunsAsBefore (day : Day) (gone : List ℕ) (t : ℕ) : Type 0 where
  pub leaving : leaves (without_trips gone day) t ≡ leaves day (old_number day gone t)
  pub arriving : arrives (without_trips gone day) t ≡ arrives day (old_number day gone t)
  pub origin : from_of (without_trips gone day) t ≡ from_of day (old_number day gone t)
  pub goal : to_of (without_trips gone day) t ≡ to_of day (old_number day gone t)
  pub cost : (types : List ℕ) → trip_cost (without_trips gone day) t types ≡ trip_cost day (old_number day gone t) types

-- each trip of then runs as one did, no two as one, and one as each trip that is not gone
pub record RunAsBefore (day : Day) (gone : List ℕ) : Type 0 where
  pub each : (t : ℕ) → t < length (without_trips gone day).trips → RunsAsBefore day gone t
  pub apart : (s t : ℕ) → s < length (without_trips gone day).trips → t < length (without_trips gone day).trips
      → old_number day gone s ≡ old_number day gone t → s ≡ t
  pub every : (t : ℕ) → t < length day.trips → has t gone ≡ false
      → (s : ℕ) × (s < length (without_trips gone day).trips) × (old_number day gone s ≡ t)

abbrev pub LeftTripsRunAsBefore : Type 0
LeftTripsRunAsBefore = (day : Day) (gone : List ℕ) → RunAsBefore day gone
