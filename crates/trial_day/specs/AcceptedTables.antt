-- What is so of the tables of trial days: their rows are within the limits, and no test of a day fails on them.
use Rattle.std.specs.Prelude.{ℕ, IsOk}
use Rattle.day_tables.specs.declared.building.tables.Tables.{Tables}
use Rattle.timetable.specs.Build.{day_of}
use Rattle.timetable.specs.DayTables.{AreTables}
use Rattle.timetable.specs.Refusals.{day_tests}
use Rattle.timetable.specs.Tests.{NoneFailed}
use Rattle.trial_day.specs.Trial.{IsTrialSize, trial_tables_of}

-- tables that make a day: rows within their limits, on which no test of a day fails
pub record MakeADay (tables : Tables) : Type 0 where
  pub within : AreTables tables
  pub passed : NoneFailed (day_tests tables)
  pub made : IsOk (day_of tables)

-- the tables of every seed and number of trips make a day
abbrev pub TrialDaysAreAccepted : Type 0
TrialDaysAreAccepted = (seed trips : ℕ) → IsTrialSize trips → MakeADay (trial_tables_of seed trips)
