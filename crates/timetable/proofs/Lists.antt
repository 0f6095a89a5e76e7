-- Plans that were accepted.
use Rattle.std.proofs.Common.{◌≡◌, ℕ, ◌+◌, ◌<◌, ◌≤◌, Bool, true, false, List, [], ◌∷◌, ◌++◌, length, refl, ap, subst}
use Rattle.std.proofs.Common.{◌∙◌, zero-add, arith, length-append, Option, Some, None, Result, Ok, Err, slice_get}
use Rattle.std.proofs.Common.{unwrap_or, inl, inr}
use Rattle.std.specs.Prelude.{nat_lt, if◌then◌else◌}
use Rattle.std.specs.List.{All, list_all}
use Rattle.std.proofs.lemmas.Bool.{and_parts, ltb-true, cases_eq, cases_lt, ne_eqb, leb-true}
use Rattle.std.proofs.lemmas.List.Elements.{All-nil}
use Rattle.std.proofs.lemmas.Option.{slice_get_within, slice_get_past}
use Rattle.rail_csv.specs.declared.rows.PlanRow.{PlanRow}
use Rattle.rules.specs.declared.records.Trip.{Trip}
use Rattle.day_tables.specs.declared.building.refusal.PlanRefusal.{PlanRefusal}
use Rattle.day_tables.specs.declared.building.refusal.PlanRefusal.TheVariants.{WrongTrip, UnknownUnit}
use Rattle.timetable.specs.Day.{Day, unit_count}
use Rattle.timetable.specs.Links.{list_of}
use Rattle.timetable.specs.Lists.{count_of}
use Rattle.timetable.specs.Plans.{is_named, are_units, accept_list, lists_in}
use Rattle.timetable.specs.Rowwise.{row_after, accept_each}
use Rattle.timetable.specs.Running.{IsPlan}
use Rattle.timetable.proofs.Accepting.{bind_ok, choice_ok, same_ok, accepted_all, accepted_length}
use Rattle.timetable.proofs.Days.{entry_at}

-- the list that was accepted is that of its row: its trip is there with that name, and its units are the day's
pub record IsListOfRow (day : Day) (before : List (List ℕ)) (row : PlanRow) (units : List ℕ) : Type 0 where
  pub trip : is_named (slice_get day.trips (length before)) row.trip ≡ true
  pub known : are_units day units ≡ true
  pub is : row.units ≡ units

pub list_of_row : (day : Day) (before : List (List ℕ)) (row : PlanRow) (units : List ℕ) → accept_list day before row ≡ Ok units → IsListOfRow day before row units
unfolding accept_list
list_of_row day before row units e =
    let known : Result (List ℕ) PlanRefusal = if are_units day row.units then Ok row.units else Err (UnknownUnit (row_after before)) in
    let (trip, e1) = choice_ok (is_named (slice_get day.trips (length before)) row.trip) (WrongTrip (row_after before)) known units e in
    let (are, e2) = choice_ok (are_units day row.units) (UnknownUnit (row_after before)) (Ok row.units) units e1 in
    let same : row.units ≡ units = same_ok row.units units e2 in
    record { trip = trip; known = subst (λ (us : List ℕ). are_units day us ≡ true) same are; is = same }

-- a trip with a name is there
pub named_within : (trips : List Trip) (t : ℕ) (name : List ℕ) → is_named (slice_get trips t) name ≡ true → t < length trips
named_within trips t name e = at (slice_get trips t) refl e
  where
    at : (o : Option Trip) → slice_get trips t ≡ o → is_named o name ≡ true → t < length trips
    at None is e = absurd cc
    at (Some trip) is e = slice_get_within trips t trip is

-- there are no more lists than trips
pub few_lists : (day : Day) (before : List (List ℕ)) (rows : List PlanRow) (lists : List (List ℕ)) → length before ≤ length day.trips
    → accept_each (accept_list day) before rows ≡ Ok lists → length lists ≤ length day.trips
few_lists day before [] lists few e = let same : length before ≡ length lists = ap length (same_ok before lists e) in omega arith
few_lists day before (row ∷ rows) lists few e =
    let (units, is, more) = bind_ok (accept_list day before row) (λ units. accept_each (accept_list day) (before ++ units ∷ []) rows) lists e in
    let below : length before < length day.trips = named_within day.trips (length before) row.trip (list_of_row day before row units is).trip in
    few_lists day (before ++ units ∷ []) rows lists (omega (arith, length-append before (units ∷ []))) more

-- what a list has is known
has_known : (n u : ℕ) (us : List ℕ) → list_all (λ v. nat_lt v n) us ≡ true → 1 ≤ count_of u us → u < n
has_known n u [] all here = absurd (omega arith)
has_known n u (v ∷ us) all here =
    let (first, others) = and_parts (nat_lt v n) (list_all (λ v. nat_lt v n) us) all in
    elim (cases_eq v u) [
      | inl is ↦ subst (λ (k : ℕ). k < n) is (ltb-true v n first)
      | inr differ ↦
          let left : 1 ≤ (if false then 1 else 0) + count_of u us = subst (λ (b : Bool). 1 ≤ (if b then 1 else 0) + count_of u us) (ne_eqb v u differ) here in
          has_known n u us others (omega arith)
    ]

-- the units of a list in a plan are known
units_known : (n : ℕ) (lists : List (List ℕ)) (t u : ℕ) → All (λ units. list_all (λ v. nat_lt v n) units ≡ true) lists → 1 ≤ count_of u (unwrap_or (slice_get lists t) []) → u < n
units_known n lists t u all here = elim (cases_lt t (length lists)) [
  | inl below ↦
      let (units, is, known) = entry_at (λ units. list_all (λ v. nat_lt v n) units ≡ true) lists t below all in
      has_known n u units known (subst (λ (o : Option (List ℕ)). 1 ≤ count_of u (unwrap_or o [])) is here)
  | inr past ↦
      let none : 1 ≤ count_of u [] = subst (λ (o : Option (List ℕ)). 1 ≤ count_of u (unwrap_or o [])) (slice_get_past lists t past) here in
      absurd (omega arith)
]

-- where each trip has a row, the lists that were accepted are a plan
pub lists_are_plan : (day : Day) (rows : List PlanRow) (lists : List (List ℕ)) → lists_in day rows ≡ Ok lists → length day.trips ≤ length rows → IsPlan day lists
unfolding lists_in list_of
lists_are_plan day rows lists e all =
    let some : length lists ≡ length rows = accepted_length (accept_list day) [] rows lists e ∙ zero-add (length rows) in
    let few : length lists ≤ length day.trips = few_lists day [] rows lists (omega arith) e in
    let known : All (λ units. are_units day units ≡ true) lists = accepted_all (accept_list day) (λ _. Unit {0}) (λ units. are_units day units ≡ true)
    (λ before row units _ is. (list_of_row day before row units is).known) [] rows lists (All-nil (λ units. are_units day units ≡ true)) (λ k d below. tt) e in
    record {
      trips = omega arith;
      units = λ t u here. units_known (unit_count day) lists t u known (leb-true 1 (count_of u (unwrap_or (slice_get lists t) [])) here);
    }

-- there are as many lists as rows
pub length-lists_in : (day : Day) (rows : List PlanRow) (lists : List (List ℕ)) → lists_in day rows ≡ Ok lists → length lists ≡ length rows
unfolding lists_in
length-lists_in day rows lists e = accepted_length (accept_list day) [] rows lists e ∙ zero-add (length rows)
