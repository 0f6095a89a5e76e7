-- The files of a folder are accepted as a day and a plan exactly where each of them is right, and together they make
-- these.
use Rattle.std.proofs.Common.{◌≡◌, ℕ, Bool, true, false, cond, ltb, List, length, Result, Ok, Err, refl, sym, ap, subst}
use Rattle.std.proofs.lemmas.Bool.{ltb-false, le-ltb}
use Rattle.rail_base.specs.Answers.{◌>>=◌}
use Rattle.rail_base.specs.declared.limits.TheConstants.{MAX_TABLE_BYTES}
use Rattle.rail_io.specs.Folders.{Files}
use Rattle.rail_csv.specs.declared.rows.Table.{Table}
use Rattle.rail_csv.specs.declared.rows.Table.TheVariants as table
use Rattle.rail_csv.specs.declared.refusal.TableRefusal.{TableRefusal}
use Rattle.rail_csv.specs.declared.rows.PlanRow.{PlanRow}
use Rattle.rail_csv.specs.Rows.{ArePlanRows}
use Rattle.rail_csv.proofs.Accepted.{types_within, stations_within, stock_within, trips_within, links_within, weights_within}
use Rattle.day_tables.specs.declared.building.tables.Tables.{Tables}
use Rattle.timetable.specs.Day.{Day}
use Rattle.day_tables.specs.declared.building.refusal.InstanceRefusal.{InstanceRefusal}
use Rattle.day_tables.specs.declared.building.refusal.PlanRefusal.{PlanRefusal}
use Rattle.timetable.specs.Accepted.{IsSoundDay}
use Rattle.timetable.specs.Build.{day_of}
use Rattle.timetable.specs.Plans.{plan_of}
use Rattle.timetable.proofs.SoundDays.{tables_make_sound_days}
use Rattle.day_files.specs.declared.errors.Refusal.{Refusal}
use Rattle.day_files.specs.declared.inputs.Inputs.{Inputs}
use Rattle.day_files.specs.Tables.{RowsOf, reading, bytes_of, bytes_in, as_table, read_by, table_in}
use Rattle.day_files.specs.Tables.{AreTables, IsMadeDay, IsFileOf, AreFilesOf, AreAcceptedAsDay, IsMadePlan}
use Rattle.day_files.specs.Inputs.{as_day, as_plan, tables_in, day_in, inputs_in}
use Rattle.day_files.specs.Acceptance.{AreAccepted}

abbrev pub the_ok : {A : Type 0} → A → Result A Refusal
the_ok x = Ok x

-- a step that went well, and what follows it
pub step : {A B : Type 0} {read : Result A Refusal} {next : A → Result B Refusal} {b : B} → (read >>= next) ≡ Ok b → {Q : Type 0} → ((a : A) → read ≡ Ok a → next a ≡ Ok b → Q) → Q
step {read = Ok a} e goes = goes a refl e
step {read = Err d} e goes = absurd cc

pub same : {A : Type 0} (x y : A) → the_ok x ≡ the_ok y → x ≡ y
same x y e = cc

few : {A : Type 0} (b : Bool) (x y : A) (why : Refusal) → cond b (Err why) (the_ok x) ≡ Ok y → (b ≡ false) × (x ≡ y)
few true x y why e = absurd cc
few false x y why e = (refl, cc)

table_read : {A : Type 0} (table : Table) (read : Result A TableRefusal) (rows : A) → as_table table read ≡ Ok rows → read ≡ Ok rows
table_read table (Ok x) rows e = ap (λ a. Ok a) (same x rows e)
table_read table (Err why) rows e = absurd cc

day_made : (made : Result Day InstanceRefusal) (day : Day) → as_day made ≡ Ok day → made ≡ Ok day
day_made (Ok x) day e = ap (λ a. Ok a) (same x day e)
day_made (Err why) day e = absurd cc

-- a day that was made of these tables
pub made_of : (tables : Tables) (day : Day) → AreTables tables → day_of tables ≡ Ok day → IsMadeDay day
made_of tables day within made = record { tables = tables; rows = within; made = made }

-- a plan that was made of these rows
pub made_plan : (day : Day) (rows : List PlanRow) (plan : List (List ℕ)) → ArePlanRows rows → plan_of day rows ≡ Ok plan → IsMadePlan day plan
made_plan day rows plan within made = record { rows = rows; within = within; made = made }

plan_made : {A : Type 0} (made : Result A PlanRefusal) (plan : A) → as_plan made ≡ Ok plan → made ≡ Ok plan
plan_made (Ok x) plan e = ap (λ a. Ok a) (same x plan e)
plan_made (Err why) plan e = absurd cc

-- ---- one file

pub file_of : (files : Files) (dir : List ℕ) (table : Table) (rows : RowsOf table) → table_in files dir table ≡ Ok rows → IsFileOf files dir table rows
unfolding read_by bytes_in
file_of files dir table rows e =
    step e (λ bytes e1 e2.
    let k = few (ltb MAX_TABLE_BYTES (length (bytes_of files dir table))) (bytes_of files dir table) bytes _ e1 in
    record {
      few = ltb-false _ _ k.0;
      read = subst (λ (b : List ℕ). reading table b ≡ Ok rows) (sym k.1) (table_read table (reading table bytes) rows e2);
    })

pub file_is : (files : Files) (dir : List ℕ) (table : Table) (rows : RowsOf table) → IsFileOf files dir table rows → table_in files dir table ≡ Ok rows
unfolding read_by bytes_in
file_is files dir table rows f = rw (le-ltb _ _ f.few, f.read) refl

-- ---- all of them

pub files_of : (files : Files) (dir : List ℕ) (tables : Tables) → tables_in files dir ≡ Ok tables → AreFilesOf files dir tables
unfolding tables_in
files_of files dir tables e =
    step e (λ types types_read e1.
    step e1 (λ stations stations_read e2.
    step e2 (λ stock stock_read e3.
    step e3 (λ trips trips_read e4.
    step e4 (λ links links_read e5.
    step e5 (λ weights weights_read e6.
    subst (λ (t : Tables). AreFilesOf files dir t) (same _ tables e6) (record {
      types = file_of files dir table.Types types types_read;
      stations = file_of files dir table.Stations stations stations_read;
      stock = file_of files dir table.Stock stock stock_read;
      trips = file_of files dir table.Trips trips trips_read;
      links = file_of files dir table.Links links links_read;
      weights = file_of files dir table.Weights weights weights_read;
    })))))))

pub tables_of_files : (files : Files) (dir : List ℕ) (tables : Tables) → AreFilesOf files dir tables → tables_in files dir ≡ Ok tables
unfolding tables_in
tables_of_files files dir tables f =
    let types = file_is files dir table.Types tables.types f.types in
    let stations = file_is files dir table.Stations tables.stations f.stations in
    let stock = file_is files dir table.Stock tables.stock f.stock in
    let trips = file_is files dir table.Trips tables.trips f.trips in
    let links = file_is files dir table.Links tables.links f.links in
    let weights = file_is files dir table.Weights tables.weights f.weights in
    rw (types, stations, stock, trips, links, weights) refl

pub day_accepted_if : (files : Files) (dir : List ℕ) (day : Day) → day_in files dir ≡ Ok day → AreAcceptedAsDay files dir day
unfolding day_in
day_accepted_if files dir day e =
    step e (λ tables tables_read made. record {
      tables = tables;
      table_files = files_of files dir tables tables_read;
      made = day_made (day_of tables) day made;
    })

pub day_if_accepted : (files : Files) (dir : List ℕ) (day : Day) → AreAcceptedAsDay files dir day → day_in files dir ≡ Ok day
unfolding day_in
day_if_accepted files dir day a = rw (tables_of_files files dir a.tables a.table_files, a.made) refl

pub accepted_if : (files : Files) (dir : List ℕ) (inputs : Inputs) → inputs_in files dir ≡ Ok inputs → AreAccepted files dir inputs
unfolding inputs_in
accepted_if files dir inputs e =
    step e (λ day made e1.
    let accepted = day_accepted_if files dir day made in
    step e1 (λ rows rows_read e2.
    step e2 (λ plan plan_read e3.
    subst (λ (i : Inputs). AreAccepted files dir i) (same (record { instance = day; plan = plan }) inputs e3) (record {
      tables = accepted.tables;
      table_files = accepted.table_files;
      day = accepted.made;
      rows = rows;
      plan_file = file_of files dir table.Plan rows rows_read;
      plan = plan_made (plan_of day rows) plan plan_read;
    }))))

pub if_accepted : (files : Files) (dir : List ℕ) (inputs : Inputs) → AreAccepted files dir inputs → inputs_in files dir ≡ Ok inputs
unfolding inputs_in
if_accepted files dir inputs a =
    let day = day_if_accepted files dir inputs.instance (record { tables = a.tables; table_files = a.table_files; made = a.day }) in
    let rows = file_is files dir table.Plan a.rows a.plan_file in
    rw (day, rows, a.plan) refl

-- ---- what is known of an accepted day

-- a day as which the files of a folder are accepted is made of tables whose rows keep within the ranges of their columns
pub made_of_files : (files : Files) (dir : List ℕ) (day : Day) → day_in files dir ≡ Ok day → IsMadeDay day
made_of_files files dir day e =
    let accepted = day_accepted_if files dir day e in
    let each = accepted.table_files in
    record {
      tables = accepted.tables;
      rows = record {
        types = types_within (bytes_of files dir table.Types) accepted.tables.types each.types.read;
        stations = stations_within (bytes_of files dir table.Stations) accepted.tables.stations each.stations.read;
        stock = stock_within (bytes_of files dir table.Stock) accepted.tables.stock each.stock.read;
        trips = trips_within (bytes_of files dir table.Trips) accepted.tables.trips each.trips.read;
        links = links_within (bytes_of files dir table.Links) accepted.tables.links each.links.read;
        weights = weights_within (bytes_of files dir table.Weights) accepted.tables.weights each.weights.read;
      };
      made = accepted.made;
    }

-- a day that is made of such tables is as the laws on days ask for it
pub sound_of : (day : Day) → IsMadeDay day → IsSoundDay day
sound_of day made = tables_make_sound_days made.tables day made.rows made.made
