-- The order in which files are read, and how far the reading comes.
use Rattle.std.specs.Prelude.{ℕ, ◌≡◌, List, [], ◌∷◌}
use Rattle.std.specs.List.{AllByRecursion}
use Rattle.rail_io.specs.Folders.{Files}
use Rattle.rail_csv.specs.declared.rows.Table.{Table}
use Rattle.rail_csv.specs.declared.rows.Table.TheVariants.{Types, Stations, Stock, Trips, Links, Weights, Plan}
use Rattle.timetable.specs.Day.{Day}
use Rattle.day_files.specs.Tables.{RowsOf, IsFileOf, AreAcceptedAsDay}

-- the files that are read before a table's file, in their order
abbrev pub before : Table → List Table
before Types = []
before Stations = Types ∷ []
before Stock = Types ∷ Stations ∷ []
before Trips = Types ∷ Stations ∷ Stock ∷ []
before Links = Types ∷ Stations ∷ Stock ∷ Trips ∷ []
before Weights = Types ∷ Stations ∷ Stock ∷ Trips ∷ Links ∷ []
before Plan = Types ∷ Stations ∷ Stock ∷ Trips ∷ Links ∷ Weights ∷ []

-- the file of a table is right by itself: it is a table of some rows
abbrev pub IsRead : Files → List ℕ → Table → Type 0
IsRead files dir table = (rows : RowsOf table) × IsFileOf files dir table rows

-- the six files are accepted as some day
abbrev pub HaveDay : Files → List ℕ → Type 0
HaveDay files dir = (day : Day) × AreAcceptedAsDay files dir day

-- the reading reaches a table's file: each file before it is right by itself, and the plan is read once the tables make
-- a day
pub record Reaches (files : Files) (dir : List ℕ) (table : Table) : Type 0 where
  pub accepted : AllByRecursion (IsRead files dir) (before table)
  pub day : table ≡ Plan → HaveDay files dir
