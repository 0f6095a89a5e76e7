-- The tables of a folder: what its files are read as, and what is known of accepted rows, days and plans.
use Rattle.std.specs.Prelude.{ℕ, ◌≡◌, ◌≤◌, List, length, nat_lt, if◌then◌else◌, Result, Ok, Err}
use Rattle.rail_base.specs.Answers.{◌>>=◌}
use Rattle.rail_base.specs.declared.limits.TheConstants.{MAX_TABLE_BYTES}
use Rattle.rail_io.specs.Folders.{Files, file_at}
use Rattle.rail_csv.specs.declared.rows.Table.{Table}
use Rattle.rail_csv.specs.declared.rows.Table.TheVariants as table
use Rattle.rail_csv.specs.declared.rows.PlanRow.{PlanRow}
use Rattle.rail_csv.specs.declared.refusal.TableRefusal.{TableRefusal}
use Rattle.rail_csv.specs.Rows.{ArePlanRows}
use Rattle.day_tables.specs.declared.building.tables.Tables.{Tables}
use Rattle.timetable.specs.Day.{Day}
use Rattle.timetable.specs.Build.{day_of}
pub use Rattle.timetable.specs.DayTables.{AreTables, RowsOf, reading}
use Rattle.timetable.specs.Plans as plan_rows
use Rattle.day_files.specs.declared.errors.Refusal.{Refusal}
use Rattle.day_files.specs.declared.errors.Refusal.TheVariants.{TooLong, WrongTable}
use Rattle.day_files.specs.Names.{path_of}

-- a day that tables make whose rows keep within the ranges of their columns
pub record IsMadeDay (day : Day) : Type 0 where
  pub tables : Tables
  pub rows : AreTables tables
  pub made : day_of tables ≡ Ok day

-- a plan of a day that rows make which keep within the ranges of their columns
pub record IsMadePlan (day : Day) (plan : List (List ℕ)) : Type 0 where
  pub rows : List PlanRow
  pub within : ArePlanRows rows
  pub made : plan_rows.plan_of day rows ≡ Ok plan

-- ---- in a folder

-- the bytes of a table's file
abbrev pub bytes_of : Files → List ℕ → Table → List ℕ
bytes_of files dir table = file_at files (path_of dir table)

-- a table's file is no longer than a table may be, and its bytes read as these rows
pub record IsFileOf (files : Files) (dir : List ℕ) (table : Table) (rows : RowsOf table) : Type 0 where
  pub few : length (bytes_of files dir table) ≤ MAX_TABLE_BYTES
  pub read : reading table (bytes_of files dir table) ≡ Ok rows

-- each of the six files is the table of its rows
pub record AreFilesOf (files : Files) (dir : List ℕ) (tables : Tables) : Type 0 where
  pub types : IsFileOf files dir table.Types tables.types
  pub stations : IsFileOf files dir table.Stations tables.stations
  pub stock : IsFileOf files dir table.Stock tables.stock
  pub trips : IsFileOf files dir table.Trips tables.trips
  pub links : IsFileOf files dir table.Links tables.links
  pub weights : IsFileOf files dir table.Weights tables.weights

-- The six files are accepted as a day: they are tables that make it.
pub record AreAcceptedAsDay (files : Files) (dir : List ℕ) (day : Day) : Type 0 where
  pub tables : Tables
  pub table_files : AreFilesOf files dir tables
  pub made : day_of tables ≡ Ok day

-- ---- what the files are read as

-- the bytes of a table's file, where they are not too many
unfoldable pub bytes_in : Files → List ℕ → Table → Result (List ℕ) Refusal
bytes_in files dir table =
    if nat_lt MAX_TABLE_BYTES (length (bytes_of files dir table)) then Err (TooLong table)
    else Ok (bytes_of files dir table)

-- a table's refusal is one of its file
abbrev pub as_table : {A : Type 0} → Table → Result A TableRefusal → Result A Refusal
as_table table (Ok rows) = Ok rows
as_table table (Err why) = Err (WrongTable table why)

-- the file of a table, as it is read by this reading
unfoldable pub read_by : {A : Type 0} → (List ℕ → Result A TableRefusal) → Files → List ℕ → Table → Result A Refusal
read_by by files dir table = do
  bytes ← bytes_in files dir table
  as_table table (by bytes)

-- the table in a folder, or why its file is refused
abbrev pub table_in : Files → List ℕ → (table : Table) → Result (RowsOf table) Refusal
table_in files dir table = read_by (reading table) files dir table
