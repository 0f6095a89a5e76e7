-- A file that is refused is the first one that is wrong.
use Rattle.std.proofs.Common.{◌≡◌, ℕ, Bool, true, false, cond, ltb, List, length, Result, Ok, Err, refl, sym, ap, subst, ◌∙◌}
use Rattle.std.proofs.lemmas.Bool.{ltb-false, ltb-true}
use Rattle.rail_base.specs.Answers.{◌>>=◌}
use Rattle.rail_base.specs.declared.limits.TheConstants.{MAX_TABLE_BYTES}
use Rattle.rail_io.specs.Folders.{Files}
use Rattle.rail_csv.specs.declared.rows.PlanRow.{PlanRow}
use Rattle.rail_csv.specs.declared.rows.Table.{Table}
use Rattle.rail_csv.specs.declared.rows.Table.TheVariants as table
use Rattle.rail_csv.specs.declared.refusal.TableRefusal.{TableRefusal}
use Rattle.day_tables.specs.declared.building.tables.Tables.{Tables}
use Rattle.day_tables.specs.declared.building.refusal.InstanceRefusal.{InstanceRefusal}
use Rattle.day_tables.specs.declared.building.refusal.PlanRefusal.{PlanRefusal}
use Rattle.timetable.specs.Day.{Day}
use Rattle.timetable.specs.Build.{day_of}
use Rattle.timetable.specs.Plans.{plan_of}
use Rattle.day_files.specs.declared.errors.Refusal.{Refusal}
use Rattle.day_files.specs.declared.errors.Refusal.TheVariants.{TooLong, WrongTable, NoDay, NoPlan}
use Rattle.day_files.specs.Tables.{RowsOf, reading, bytes_of, bytes_in, as_table, read_by, table_in}
use Rattle.day_files.specs.Inputs.{as_day, as_plan, tables_in, day_in, inputs_in}
use Rattle.day_files.specs.Order.{Reaches, HaveDay}
use Rattle.day_files.specs.Acceptance.{IsFirstRefusal, IsOfPlan}
use Rattle.day_files.proofs.Accepted.{file_of, files_of, day_accepted_if, day_if_accepted}
use Rattle.day_files.proofs.Reached.{is_read, reached, plan_reached}

same_why : {A : Type 0} (d w : Refusal) → ◌≡◌ {A = Result A Refusal} (Err d) (Err w) → d ≡ w
same_why d w e = cc

-- a step that ends in a refusal: its own, or that of what follows it
ends : {A B : Type 0} {read : Result A Refusal} {next : A → Result B Refusal} {why : Refusal} → (read >>= next) ≡ Err why → {Q : Type 0} → (read ≡ Err why → Q) → ((a : A) → read ≡ Ok a → next a ≡ Err why → Q) → Q
ends {read = Ok a} e here later = later a refl e
ends {read = Err d} e here later = here (ap (λ w. Err w) (same_why d _ e))

-- ---- one file

-- the file of a table that is reached is refused
file_refused : (files : Files) (dir : List ℕ) (table : Table) (why : Refusal) → Reaches files dir table
    → table_in files dir table ≡ Err why → IsFirstRefusal files dir why
unfolding read_by bytes_in
file_refused files dir table why reached e =
    ends e (λ long. by_length _ refl long) (λ bytes got refused.
    let k = kept (ltb MAX_TABLE_BYTES (length (bytes_of files dir table))) bytes got in
    by_table (reading table bytes) refl k.0 k.1 refused)
  where
    kept : (b : Bool) (bytes : List ℕ) → cond b (Err (TooLong table)) (Ok (bytes_of files dir table)) ≡ Ok bytes → (b ≡ false) × (bytes_of files dir table ≡ bytes)
    kept true bytes e = absurd cc
    kept false bytes e = (refl, cc)

    by_length : (b : Bool) → ltb MAX_TABLE_BYTES (length (bytes_of files dir table)) ≡ b → ◌≡◌ {A = Result (List ℕ) Refusal} (cond b (Err (TooLong table)) (Ok (bytes_of files dir table))) (Err why) → IsFirstRefusal files dir why
    by_length true is e = subst (λ (w : Refusal). IsFirstRefusal files dir w) (same_why (TooLong table) why e) (reached, ltb-true _ _ is)
    by_length false is e = absurd cc

    by_table : {bytes : List ℕ} (read : Result (RowsOf table) TableRefusal) → reading table bytes ≡ read → ltb MAX_TABLE_BYTES (length (bytes_of files dir table)) ≡ false → bytes_of files dir table ≡ bytes → as_table table read ≡ Err why → IsFirstRefusal files dir why
    by_table (Ok rows) is few bytes_are e = absurd cc
    by_table (Err d) is few bytes_are e = subst (λ (w : Refusal). IsFirstRefusal files dir w) (same_why (WrongTable table d) why e)
        (reached, ltb-false _ _ few, ap (reading table) bytes_are ∙ is)

-- ---- in order

no_day : (files : Files) (dir : List ℕ) (why : Refusal) → day_in files dir ≡ Err why → ¬ HaveDay files dir
no_day files dir why e (day, accepted) =
    let both : ◌≡◌ {A = Result Day Refusal} (Ok day) (Err why) = sym (day_if_accepted files dir day accepted) ∙ e in
    absurd cc

tables_refused : (files : Files) (dir : List ℕ) (why : Refusal) → tables_in files dir ≡ Err why → IsFirstRefusal files dir why
unfolding tables_in
tables_refused files dir why e =
    ends e (λ no. file_refused files dir table.Types why (reached files dir table.Types tt (λ e. cc)) no) (λ types types_read e1.
    let r1 = is_read files dir table.Types types types_read in
    ends e1 (λ no. file_refused files dir table.Stations why (reached files dir table.Stations (r1, tt) (λ e. cc)) no) (λ stations stations_read e2.
    let r2 = is_read files dir table.Stations stations stations_read in
    ends e2 (λ no. file_refused files dir table.Stock why (reached files dir table.Stock (r1, (r2, tt)) (λ e. cc)) no) (λ stock stock_read e3.
    let r3 = is_read files dir table.Stock stock stock_read in
    ends e3 (λ no. file_refused files dir table.Trips why (reached files dir table.Trips (r1, (r2, (r3, tt))) (λ e. cc)) no) (λ trips trips_read e4.
    let r4 = is_read files dir table.Trips trips trips_read in
    ends e4 (λ no. file_refused files dir table.Links why (reached files dir table.Links (r1, (r2, (r3, (r4, tt)))) (λ e. cc)) no) (λ links links_read e5.
    let r5 = is_read files dir table.Links links links_read in
    ends e5 (λ no. file_refused files dir table.Weights why (reached files dir table.Weights (r1, (r2, (r3, (r4, (r5, tt))))) (λ e. cc)) no) (λ weights weights_read e6.
    absurd cc))))))

pub day_refused_if : (files : Files) (dir : List ℕ) (why : Refusal) → day_in files dir ≡ Err why → IsFirstRefusal files dir why
unfolding day_in
day_refused_if files dir why e =
    ends e (tables_refused files dir why) (λ tables tables_read no. no_day tables tables_read (day_of tables) refl no)
  where
    no_day : (tables : Tables) → tables_in files dir ≡ Ok tables → (made : Result Day InstanceRefusal) → day_of tables ≡ made → as_day made ≡ Err why → IsFirstRefusal files dir why
    no_day tables tables_read (Ok day) is e = absurd cc
    no_day tables tables_read (Err d) is e = subst (λ (w : Refusal). IsFirstRefusal files dir w) (same_why (NoDay d) why e) (tables, files_of files dir tables tables_read, is)

-- a refusal of a day is none of its plan, which is reached once there is a day
pub day_refused_before_plan : (files : Files) (dir : List ℕ) (why : Refusal) → day_in files dir ≡ Err why → IsFirstRefusal files dir why
    → ¬ IsOfPlan why
day_refused_before_plan files dir (TooLong t) e first of_plan = no_day files dir _ e (first.0.day of_plan)
day_refused_before_plan files dir (WrongTable t why) e first of_plan = no_day files dir _ e (first.0.day of_plan)
day_refused_before_plan files dir (NoDay why) e first of_plan = of_plan
day_refused_before_plan files dir (NoPlan why) e first of_plan = no_day files dir _ e (first.0, first.1)

pub refused_if : (files : Files) (dir : List ℕ) (why : Refusal) → inputs_in files dir ≡ Err why → IsFirstRefusal files dir why
unfolding inputs_in
refused_if files dir why e =
    ends e (day_refused_if files dir why) (λ day made e1.
    ends e1 (λ no. file_refused files dir table.Plan why (plan_reached files dir day made) no) (λ rows rows_read e2.
    ends e2 (λ no. no_plan day made rows rows_read (plan_of day rows) refl no) (λ plan planned e3. absurd cc)))
  where
    no_plan : (day : Day) → day_in files dir ≡ Ok day → (rows : List PlanRow) → table_in files dir table.Plan ≡ Ok rows → (made : Result (List (List ℕ)) PlanRefusal) → plan_of day rows ≡ made
        → as_plan made ≡ Err why → IsFirstRefusal files dir why
    no_plan day made rows rows_read (Ok plan) is e = absurd cc
    no_plan day made rows rows_read (Err d) is e = subst (λ (w : Refusal). IsFirstRefusal files dir w) (same_why (NoPlan d) why e)
        (day, day_accepted_if files dir day made, rows, file_of files dir table.Plan rows rows_read, is)
