-- The first file that is wrong is the one that is refused.
use Rattle.std.proofs.Common.{◌≡◌, ◌≢◌, ◌⊎◌, ℕ, List, Err, inl, inr, refl, subst}
use Rattle.std.proofs.lemmas.Bool.{lt-ltb, le-ltb}
use Rattle.rail_io.specs.Folders.{Files}
use Rattle.rail_csv.specs.declared.rows.Table.{Table}
use Rattle.rail_csv.specs.declared.rows.Table.TheVariants as table
use Rattle.day_files.specs.declared.errors.Refusal.{Refusal}
use Rattle.day_files.specs.declared.errors.Refusal.TheVariants.{TooLong, WrongTable, NoDay, NoPlan}
use Rattle.day_files.specs.Tables.{bytes_in, read_by, table_in}
use Rattle.day_files.specs.Inputs.{day_in, inputs_in}
use Rattle.day_files.specs.Order.{Reaches}
use Rattle.day_files.specs.Acceptance.{IsFirstRefusal, IsOfPlan}
use Rattle.day_files.proofs.Accepted.{file_is, tables_of_files, day_if_accepted}
use Rattle.day_files.proofs.Reached.{tables_ended}

-- a file of a table that is reached and refused ends the reading
day_ended : (files : Files) (dir : List ℕ) (t : Table) (why : Refusal) → t ≢ table.Plan → Reaches files dir t
    → table_in files dir t ≡ Err why → day_in files dir ≡ Err why
unfolding day_in
day_ended files dir t why no_plan r e = rw (tables_ended files dir t why no_plan r.accepted e) refl

-- and so does the file of the plan
plan_ended : (files : Files) (dir : List ℕ) (why : Refusal) → Reaches files dir table.Plan
    → table_in files dir table.Plan ≡ Err why → inputs_in files dir ≡ Err why
unfolding inputs_in
plan_ended files dir why r e =
    let day = r.day refl in
    rw (day_if_accepted files dir day.0 day.1, e) refl

-- what the reading of the tables ends in, that of the day and the plan does
inputs_ended : (files : Files) (dir : List ℕ) (why : Refusal) → day_in files dir ≡ Err why → inputs_in files dir ≡ Err why
unfolding inputs_in
inputs_ended files dir why e = rw e refl

pub day_if_refused : (files : Files) (dir : List ℕ) (why : Refusal) → IsFirstRefusal files dir why → ¬ IsOfPlan why
    → day_in files dir ≡ Err why
unfolding day_in read_by bytes_in
day_if_refused files dir (TooLong t) h no_plan = day_ended files dir t (TooLong t) no_plan h.0 (rw (lt-ltb _ _ h.1) refl)
day_if_refused files dir (WrongTable t why) h no_plan =
    day_ended files dir t (WrongTable t why) no_plan h.0 (rw (le-ltb _ _ h.1, h.2) refl)
day_if_refused files dir (NoDay why) h no_plan = rw (tables_of_files files dir h.0 h.1, h.2) refl
day_if_refused files dir (NoPlan why) h no_plan = absurd (no_plan tt)

of_plan_or_day : (t : Table) → (t ≡ table.Plan) ⊎ (t ≢ table.Plan)
of_plan_or_day table.Types = inr (λ e. cc)
of_plan_or_day table.Stations = inr (λ e. cc)
of_plan_or_day table.Stock = inr (λ e. cc)
of_plan_or_day table.Trips = inr (λ e. cc)
of_plan_or_day table.Links = inr (λ e. cc)
of_plan_or_day table.Weights = inr (λ e. cc)
of_plan_or_day table.Plan = inl refl

-- a file that is reached and refused ends the reading of the day and the plan
ended : (files : Files) (dir : List ℕ) (t : Table) (why : Refusal) → Reaches files dir t → table_in files dir t ≡ Err why → inputs_in files dir ≡ Err why
ended files dir t why r e = by_table (of_plan_or_day t)
  where
    by_table : (t ≡ table.Plan) ⊎ (t ≢ table.Plan) → inputs_in files dir ≡ Err why
    by_table (inl is) =
        let at_plan = subst (λ (other : Table). Reaches files dir other × (table_in files dir other ≡ Err why)) is (r, e) in
        plan_ended files dir why at_plan.0 at_plan.1
    by_table (inr no_plan) = inputs_ended files dir why (day_ended files dir t why no_plan r e)

pub if_refused : (files : Files) (dir : List ℕ) (why : Refusal) → IsFirstRefusal files dir why → inputs_in files dir ≡ Err why
unfolding inputs_in read_by bytes_in
if_refused files dir (TooLong t) h = ended files dir t (TooLong t) h.0 (rw (lt-ltb _ _ h.1) refl)
if_refused files dir (WrongTable t why) h = ended files dir t (WrongTable t why) h.0 (rw (le-ltb _ _ h.1, h.2) refl)
if_refused files dir (NoDay why) h = inputs_ended files dir (NoDay why) (day_if_refused files dir (NoDay why) h (λ no. no))
if_refused files dir (NoPlan why) h = rw (day_if_accepted files dir h.0 h.1, file_is files dir table.Plan h.2 h.3, h.4) refl
