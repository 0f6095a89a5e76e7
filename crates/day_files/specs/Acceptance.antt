-- What it means that the files of a folder are accepted, and that one of them is the first that is refused.
use Rattle.std.specs.Prelude.{ℕ, ◌≡◌, ◌<◌, ◌≤◌, List, length, Ok, Err, ⊤}
use Rattle.rail_base.specs.declared.limits.TheConstants.{MAX_TABLE_BYTES}
use Rattle.rail_io.specs.Folders.{Files}
use Rattle.rail_csv.specs.declared.rows.PlanRow.{PlanRow}
use Rattle.rail_csv.specs.declared.rows.Table.TheVariants as table
use Rattle.day_tables.specs.declared.building.tables.Tables.{Tables}
use Rattle.timetable.specs.Day.{Day}
use Rattle.timetable.specs.Build.{day_of}
use Rattle.timetable.specs.Plans.{plan_of}
use Rattle.day_files.specs.declared.errors.Refusal.{Refusal}
use Rattle.day_files.specs.declared.errors.Refusal.TheVariants.{TooLong, WrongTable, NoDay, NoPlan}
use Rattle.day_files.specs.declared.inputs.Inputs.{Inputs}
use Rattle.day_files.specs.Tables.{reading, bytes_of, IsFileOf, AreFilesOf, AreAcceptedAsDay}
use Rattle.day_files.specs.Order.{Reaches}

-- The files are accepted as a day and a plan of it: the six tables make the day, and the rows of the seventh make the
-- plan.
pub record AreAccepted (files : Files) (dir : List ℕ) (inputs : Inputs) : Type 0 where
  pub tables : Tables
  pub table_files : AreFilesOf files dir tables
  pub day : day_of tables ≡ Ok inputs.instance
  pub rows : List PlanRow
  pub plan_file : IsFileOf files dir table.Plan rows
  pub plan : plan_of inputs.instance rows ≡ Ok inputs.plan

-- The first file that is refused, and why: the reading reaches it, and it is too long, or no such table; or the six
-- files are tables that make no day; or they are accepted as a day, and the rows of the plan make no plan of it.
abbrev pub IsFirstRefusal : Files → List ℕ → Refusal → Type 0
IsFirstRefusal files dir (TooLong table) =
    Reaches files dir table × (MAX_TABLE_BYTES < length (bytes_of files dir table))
IsFirstRefusal files dir (WrongTable table why) =
    Reaches files dir table × (length (bytes_of files dir table) ≤ MAX_TABLE_BYTES)
    × (reading table (bytes_of files dir table) ≡ Err why)
IsFirstRefusal files dir (NoDay why) = (tables : Tables) × AreFilesOf files dir tables × (day_of tables ≡ Err why)
IsFirstRefusal files dir (NoPlan why) =
    (day : Day) × AreAcceptedAsDay files dir day × (rows : List PlanRow) × IsFileOf files dir table.Plan rows
    × (plan_of day rows ≡ Err why)

-- a refusal of the plan: of its file, or of its rows
abbrev pub IsOfPlan : Refusal → Type 0
IsOfPlan (TooLong read) = read ≡ table.Plan
IsOfPlan (WrongTable read why) = read ≡ table.Plan
IsOfPlan (NoDay why) = ⊥
IsOfPlan (NoPlan why) = ⊤
