-- How far the reading comes, by the files that were accepted.
use Rattle.std.proofs.Common.{◌≡◌, ◌≢◌, ◌∷◌, ℕ, List, Ok, Err, refl, sym, subst}
use Rattle.std.specs.List.{AllByRecursion}
use Rattle.rail_io.specs.Folders.{Files}
use Rattle.rail_csv.specs.declared.rows.PlanRow.{PlanRow}
use Rattle.rail_csv.specs.declared.rows.Table.{Table}
use Rattle.rail_csv.specs.declared.rows.Table.TheVariants as table
use Rattle.timetable.specs.Day.{Day}
use Rattle.timetable.specs.Plans.{plan_of}
use Rattle.day_files.specs.declared.errors.Refusal.{Refusal}
use Rattle.day_files.specs.declared.errors.ReadError.{ReadError}
use Rattle.day_files.specs.declared.errors.ReadError.TheVariants.{CannotRead, Refused, NoMemory}
use Rattle.day_files.specs.declared.inputs.Inputs.{Inputs}
use Rattle.day_files.specs.declared.inputs.UnitTables.{UnitTables}
use Rattle.day_files.specs.Tables.{RowsOf, table_in}
use Rattle.day_files.specs.Inputs.{as_plan, tables_in, day_in, inputs_in}
use Rattle.day_files.specs.Order.{IsRead, Reaches, before}
use Rattle.day_files.specs.declared.inputs.ReadTables.{ReadTables}
use Rattle.day_files.specs.declared.tables.ReadTable.{ReadTable}
use Rattle.day_files.specs.Answers.{Reads, ReadsAs}
use Rattle.day_files.specs.UnitTables.{AreUnitTablesIn}
use Rattle.day_files.proofs.Accepted.{file_of, file_is, day_accepted_if}

-- a file that was read is right by itself
pub is_read : (files : Files) (dir : List ℕ) (t : Table) (rows : RowsOf t) → table_in files dir t ≡ Ok rows → IsRead files dir t
is_read files dir t rows e = (rows, file_of files dir t rows e)

-- and back
pub as_read : (files : Files) (dir : List ℕ) (t : Table) (read : IsRead files dir t) → table_in files dir t ≡ Ok read.0
as_read files dir t read = file_is files dir t read.0 read.1

-- a file that is not that of the plan
pub reached : (files : Files) (dir : List ℕ) (t : Table) → AllByRecursion (IsRead files dir) (before t) → t ≢ table.Plan → Reaches files dir t
reached files dir t read no_plan = record { accepted = read; day = λ e. absurd (no_plan e) }

-- the file of the plan, once there is a day
pub plan_reached : (files : Files) (dir : List ℕ) (day : Day) → day_in files dir ≡ Ok day → Reaches files dir table.Plan
plan_reached files dir day made =
    let accepted = day_accepted_if files dir day made in
    let t = accepted.tables in
    let f = accepted.table_files in
    record {
      accepted = (
        (t.types, f.types),
        ((t.stations, f.stations), ((t.stock, f.stock), ((t.trips, f.trips), ((t.links, f.links), ((t.weights, f.weights), tt))))),
      );
      day = λ _. (day, accepted);
    }

-- the first three files were read, and so were those of a list behind them
pub units_read : (files : Files) (dir : List ℕ) (units : UnitTables) → AreUnitTablesIn files dir units → (tables : List Table)
    → AllByRecursion (IsRead files dir) tables
    → AllByRecursion (IsRead files dir) (table.Types ∷ table.Stations ∷ table.Stock ∷ tables)
units_read files dir units held tables rest = (
  is_read files dir table.Types units.types.table held.types,
  (
    is_read files dir table.Stations units.stations.table held.stations,
    (is_read files dir table.Stock units.stock.table held.stock, rest),
  ),
)

-- what the reading of the six tables ends in, where a file that it reaches is refused
pub tables_ended : (files : Files) (dir : List ℕ) (t : Table) (why : Refusal) → t ≢ table.Plan → AllByRecursion (IsRead files dir) (before t)
    → table_in files dir t ≡ Err why → tables_in files dir ≡ Err why
unfolding tables_in
tables_ended files dir table.Types why no_plan r e = rw e refl
tables_ended files dir table.Stations why no_plan r e =
    let types = as_read files dir table.Types r.0 in
    rw (types, e) refl
tables_ended files dir table.Stock why no_plan r e =
    let types = as_read files dir table.Types r.0 in
    let stations = as_read files dir table.Stations r.1.0 in
    rw (types, stations, e) refl
tables_ended files dir table.Trips why no_plan r e =
    let types = as_read files dir table.Types r.0 in
    let stations = as_read files dir table.Stations r.1.0 in
    let stock = as_read files dir table.Stock r.1.1.0 in
    rw (types, stations, stock, e) refl
tables_ended files dir table.Links why no_plan r e =
    let types = as_read files dir table.Types r.0 in
    let stations = as_read files dir table.Stations r.1.0 in
    let stock = as_read files dir table.Stock r.1.1.0 in
    let trips = as_read files dir table.Trips r.1.1.1.0 in
    rw (types, stations, stock, trips, e) refl
tables_ended files dir table.Weights why no_plan r e =
    let types = as_read files dir table.Types r.0 in
    let stations = as_read files dir table.Stations r.1.0 in
    let stock = as_read files dir table.Stock r.1.1.0 in
    let trips = as_read files dir table.Trips r.1.1.1.0 in
    let links = as_read files dir table.Links r.1.1.1.1.0 in
    rw (types, stations, stock, trips, links, e) refl
tables_ended files dir table.Plan why no_plan r e = absurd (no_plan refl)

-- a table that is not read, or is refused, ends the reading of the six
pub table_ended : (files : Files) (dir : List ℕ) (t : Table) (error : ReadError) → t ≢ table.Plan → AllByRecursion (IsRead files dir) (before t)
    → ReadsAs {X = ReadTable (RowsOf t)} (λ read. read.table) (λ other. other ≡ t) (Err error) (table_in files dir t)
    → ReadsAs {X = ReadTables} (λ read. read.tables) (Reaches files dir) (Err error) (tables_in files dir)
table_ended files dir t (Refused why) no_plan before read = tables_ended files dir t why no_plan before read
table_ended files dir t (CannotRead other) no_plan before read = subst (λ t. Reaches files dir t) (sym read) (reached files dir t before no_plan)
table_ended files dir t NoMemory no_plan before read = tt

-- a plan that is not read, or is refused, ends the reading
pub plan_ended : (files : Files) (dir : List ℕ) (day : Day) (error : ReadError) → day_in files dir ≡ Ok day →
    ReadsAs {X = ReadTable (List PlanRow)} (λ read. read.table) (λ other. other ≡ table.Plan) (Err error) (table_in files dir table.Plan) → Reads {Y = Inputs} (Reaches files dir) (Err error) (inputs_in files dir)
unfolding inputs_in
plan_ended files dir day (Refused why) made read = rw (made, read) refl
plan_ended files dir day (CannotRead other) made read = subst (λ t. Reaches files dir t) (sym read) (plan_reached files dir day made)
plan_ended files dir day NoMemory made read = tt

-- and so does a plan of the day that its rows do not make
pub plan_unmade : (files : Files) (dir : List ℕ) (day : Day) (rows : List PlanRow) (error : ReadError) → day_in files dir ≡ Ok day
    → table_in files dir table.Plan ≡ Ok rows → Reads (λ _. ⊥) (Err error) (as_plan (plan_of day rows))
    → Reads {Y = Inputs} (Reaches files dir) (Err error) (inputs_in files dir)
unfolding inputs_in
plan_unmade files dir day rows (Refused why) made read said = rw (made, read, said) refl
plan_unmade files dir day rows (CannotRead other) made read said = absurd said
plan_unmade files dir day rows NoMemory made read said = tt
