-- The day and the plan in a folder, or the first file that is refused.
use Rattle.std.specs.Prelude.{ℕ, List, Result, Ok, Err}
use Rattle.rail_base.specs.Answers.{◌>>=◌}
use Rattle.rail_io.specs.Folders.{Files}
use Rattle.rail_csv.specs.declared.rows.Table.TheVariants as table
use Rattle.day_tables.specs.declared.building.tables.Tables.{Tables}
use Rattle.day_tables.specs.declared.building.refusal.InstanceRefusal.{InstanceRefusal}
use Rattle.day_tables.specs.declared.building.refusal.PlanRefusal.{PlanRefusal}
use Rattle.timetable.specs.Day.{Day}
use Rattle.timetable.specs.Build.{day_of}
use Rattle.timetable.specs.Plans.{plan_of}
use Rattle.day_files.specs.declared.errors.Refusal.{Refusal}
use Rattle.day_files.specs.declared.errors.Refusal.TheVariants.{NoDay, NoPlan}
use Rattle.day_files.specs.declared.inputs.Inputs.{Inputs}
use Rattle.day_files.specs.Tables.{table_in}

-- the six tables in the order in which they are read
unfoldable pub tables_in : Files → List ℕ → Result Tables Refusal
tables_in files dir = do
  types ← table_in files dir table.Types
  stations ← table_in files dir table.Stations
  stock ← table_in files dir table.Stock
  trips ← table_in files dir table.Trips
  links ← table_in files dir table.Links
  weights ← table_in files dir table.Weights
  Ok (record { types = types; stations = stations; stock = stock; trips = trips; links = links; weights = weights })

abbrev pub as_day : {A : Type 0} → Result A InstanceRefusal → Result A Refusal
as_day (Ok day) = Ok day
as_day (Err why) = Err (NoDay why)

-- the day that the six tables make
unfoldable pub day_in : Files → List ℕ → Result Day Refusal
day_in files dir = do
  tables ← tables_in files dir
  as_day (day_of tables)

abbrev pub as_plan : {A : Type 0} → Result A PlanRefusal → Result A Refusal
as_plan (Ok plan) = Ok plan
as_plan (Err why) = Err (NoPlan why)

-- the day, the rows of the plan, and the plan of the day that they make
unfoldable pub inputs_in : Files → List ℕ → Result Inputs Refusal
inputs_in files dir = do
  day ← day_in files dir
  rows ← table_in files dir table.Plan
  plan ← as_plan (plan_of day rows)
  Ok (record { instance = day; plan = plan })
