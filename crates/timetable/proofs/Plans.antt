-- What rows say where they make a plan, and where they are refused.
use Rattle.std.proofs.Common.{◌≡◌, inl, inr, ℕ, suc, ◌<◌, ◌≤◌, Bool, true, false, List, [], ◌∷◌, map, length, get_or}
use Rattle.std.proofs.Common.{refl, sym, ap, subst, ◌∙◌, ◌+◌, ◌++◌, append_assoc, append-nil, length-append, zero-add}
use Rattle.std.proofs.Common.{arith, Option, Some, None, Result, Ok, Err, slice_get}
use Rattle.std.specs.Prelude.{nat_lt, option_map, if◌then◌else◌, IfErr}
use Rattle.std.specs.List.{All, Any, list_all}
use Rattle.std.proofs.lemmas.Bool.{and_cases, ltb-true, ltb-false, lt-ltb, le-ltb, both_ways}
use Rattle.std.proofs.lemmas.List.Elements.{All-head, All-tail, All-weaker}
use Rattle.std.proofs.lemmas.List.Sums.{AllPass-from_list_all, list_all-from_AllPass}
use Rattle.std.proofs.lemmas.Option.{slice_get-map, slice_get-get_or, same_Some}
use Rattle.std.proofs.lemmas.Slice.Eq.{bytes_eq-Decides}
use Rattle.rail_base.specs.Answers.{Unless, Gives}
use Rattle.rail_base.proofs.Answers.{Unless-then}
use Rattle.rail_csv.specs.declared.rows.PlanRow.{PlanRow}
use Rattle.rules.specs.declared.records.Trip.{Trip}
use Rattle.day_tables.specs.declared.building.refusal.PlanRefusal.{PlanRefusal}
use Rattle.day_tables.specs.declared.building.refusal.PlanRefusal.TheVariants.{WrongTrip, UnknownUnit, MissingTrip}
use Rattle.timetable.specs.Day.{Day, unit_count}
use Rattle.timetable.specs.Plans.{NamesTrip, AreRunRows, IsPlanOf, run_tests, plan_tests, is_named, are_units}
use Rattle.timetable.specs.Plans.{accept_list, lists_in, plan_of, is_memory}
use Rattle.timetable.specs.Rowwise.{row_after, accept_each}
use Rattle.timetable.specs.Tests.{NoneFailed, IsFirstFailed, row_tests}
use Rattle.timetable.proofs.Accepting.{accepted_at, accepted_map}
use Rattle.timetable.proofs.Lists.{IsListOfRow, list_of_row, few_lists, length-lists_in}
use Rattle.timetable.proofs.Passing.{ok_same, then_ok, unless_ok, when_ok}
use Rattle.timetable.proofs.Tests.{Outcome, outcome_guard, outcome_choice, outcome_then, outcome_each, outcome_ok}
use Rattle.timetable.proofs.Tests.{all_passed, first_of_failed, length-zip}

-- ---- the trip of a row

-- the trip of this number has the name
named_is : (trips : List Trip) (t : ℕ) (name : List ℕ) → is_named (slice_get trips t) name ≡ true → slice_get (map (λ trip. trip.name) trips) t ≡ Some name
named_is trips t name e = slice_get-map (λ (trip : Trip). trip.name) trips t ∙ on (slice_get trips t) e
  where
    on : (o : Option Trip) → is_named o name ≡ true → option_map (λ (trip : Trip). trip.name) o ≡ Some name
    on None e = absurd cc
    on (Some trip) e = ap Some ((bytes_eq-Decides trip.name name).0 e)

is_then_named : (trips : List Trip) (t : ℕ) (name : List ℕ) → slice_get (map (λ trip. trip.name) trips) t ≡ Some name → is_named (slice_get trips t) name ≡ true
is_then_named trips t name e = on (slice_get trips t) (sym (slice_get-map (λ (trip : Trip). trip.name) trips t) ∙ e)
  where
    on : (o : Option Trip) → option_map (λ (trip : Trip). trip.name) o ≡ Some name → is_named o name ≡ true
    on None e = absurd cc
    on (Some trip) e = (bytes_eq-Decides trip.name name).1 (same_Some trip.name name e)

-- ---- the units of a row

all_known : (n : ℕ) (units : List ℕ) → list_all (λ u. nat_lt u n) units ≡ true → All (λ u. u < n) units
all_known n units e = All-weaker (λ u. nat_lt u n ≡ true) (λ u. u < n) (λ u below. ltb-true u n below) units (AllPass-from_list_all (λ u. nat_lt u n) units e)

some_unknown : (n : ℕ) (units : List ℕ) → list_all (λ u. nat_lt u n) units ≡ false → Any (λ u. n ≤ u) units
some_unknown n [] e = absurd cc
some_unknown n (u ∷ us) e = elim (and_cases (nat_lt u n) (list_all (λ u. nat_lt u n) us) e) [
  | inl here ↦ (0, u, omega arith, refl, ltb-false u n here)
  | inr later ↦
      let (k, x, below, is, past) = some_unknown n us later in
      (suc k, x, omega arith, is, past)
]

-- ---- rows that are right

pub right_rows : (day : Day) (rows : List PlanRow) (lists : List (List ℕ)) → lists_in day rows ≡ Ok lists → AreRunRows day rows
unfolding lists_in
right_rows day rows lists e = record {
  trips = λ t row at.
      let (front, units, count, is) = accepted_at (accept_list day) [] rows lists e t row at in
      let of_row : IsListOfRow day front row units = list_of_row day front row units is in
      let same : length front ≡ t = omega arith in
      named_is day.trips t row.trip (subst (λ (k : ℕ). is_named (slice_get day.trips k) row.trip ≡ true) same of_row.trip);
  units = λ k d below.
      let row : PlanRow = get_or rows k d in
      let (front, units, count, is) = accepted_at (accept_list day) [] rows lists e k row (slice_get-get_or rows k d below) in
      let of_row : IsListOfRow day front row units = list_of_row day front row units is in
      subst (λ (us : List ℕ). All (λ u. u < unit_count day) us) (sym of_row.is) (all_known (unit_count day) units of_row.known);
}

pub plan_is_said : (day : Day) (rows : List PlanRow) (plan : List (List ℕ)) → lists_in day rows ≡ Ok plan → length day.trips ≤ length rows → IsPlanOf day rows plan
unfolding lists_in
plan_is_said day rows plan e all =
    let count : length plan ≡ length rows = length-lists_in day rows plan e in
    let few : length plan ≤ length day.trips = few_lists day [] rows plan (omega arith) e in
    record {
      right = right_rows day rows plan e;
      whole = omega arith;
      lists = accepted_map (accept_list day) (λ row. row.units) (λ before row units is. (list_of_row day before row units is).is) [] rows plan e;
    }

-- ---- rows that are right make their plan

list_accepted : (day : Day) (before : List (List ℕ)) (row : PlanRow) → NamesTrip day (length before) row → All (λ u. u < unit_count day) row.units → accept_list day before row ≡ Ok row.units
unfolding accept_list
list_accepted day before row named units =
    let known : Result (List ℕ) PlanRefusal = if are_units day row.units then Ok row.units else Err (UnknownUnit (row_after before)) in
    when_ok (is_named (slice_get day.trips (length before)) row.trip) (WrongTrip (row_after before)) known row.units (is_then_named day.trips (length before) row.trip named)
    (when_ok (are_units day row.units) (UnknownUnit (row_after before)) (Ok row.units) row.units
    (list_all-from_AllPass (λ u. nat_lt u (unit_count day)) row.units (All-weaker (λ u. u < unit_count day) (λ u. nat_lt u (unit_count day) ≡ true) (λ u below. lt-ltb u (unit_count day) below) row.units units)) refl)

lists_made : (day : Day) (before : List (List ℕ)) (rows : List PlanRow) → ((t : ℕ) (row : PlanRow) → slice_get rows t ≡ Some row → NamesTrip day (length before + t) row) → All (λ row. All (λ u. u < unit_count day) row.units) rows
    → accept_each (accept_list day) before rows ≡ Ok (before ++ map (λ row. row.units) rows)
lists_made day before [] named units = ok_same before (before ++ []) (sym (append-nil before))
lists_made day before (row ∷ rows) named units =
    let first : length before + 0 ≡ length before = omega arith in
    let next : (t : ℕ) → length before + suc t ≡ length (before ++ row.units ∷ []) + t = λ t. omega (arith, length-append before (row.units ∷ [])) in
    then_ok (accept_list day before row) (λ us. accept_each (accept_list day) (before ++ us ∷ []) rows) row.units (before ++ map (λ row. row.units) (row ∷ rows))
    (list_accepted day before row (subst (λ (t : ℕ). NamesTrip day t row) first (named 0 row refl)) (All-head (λ row. All (λ u. u < unit_count day) row.units) row rows units))
    (lists_made day (before ++ row.units ∷ []) rows (λ t later at. subst (λ (k : ℕ). NamesTrip day k later) (next t) (named (suc t) later at)) (All-tail (λ row. All (λ u. u < unit_count day) row.units) row rows units)
    ∙ ok_same ((before ++ row.units ∷ []) ++ map (λ row. row.units) rows) (before ++ row.units ∷ map (λ row. row.units) rows) (append_assoc before (row.units ∷ []) (map (λ row. row.units) rows)))

pub plan_is_meant : (day : Day) (rows : List PlanRow) (plan : List (List ℕ)) → IsPlanOf day rows plan → plan_of day rows ≡ Ok plan
unfolding plan_of lists_in
plan_is_meant day rows plan is =
    let lists : List (List ℕ) = map (λ row. row.units) rows in
    then_ok (lists_in day rows) (λ plan. if nat_lt (length rows) (length day.trips) then Err (MissingTrip (length rows)) else Ok plan) plan plan
    (lists_made day [] rows (λ t row at. subst (λ (k : ℕ). NamesTrip day k row) (sym (zero-add t)) (is.right.trips t row at)) is.right.units ∙ ok_same lists plan (sym is.lists))
    (unless_ok (nat_lt (length rows) (length day.trips)) (MissingTrip (length rows)) (Ok plan) plan (le-ltb (length rows) (length day.trips) (omega (arith, is.whole))) refl)

-- ---- the tests

rows_outcome : (day : Day) (rows : List PlanRow) → Outcome (row_tests (run_tests day) [] rows) (lists_in day rows)
unfolding lists_in accept_list
rows_outcome day rows = outcome_each (accept_list day) (run_tests day) (λ row units. row.units ≡ units) (λ before row units is. (list_of_row day before row units is).is)
    (λ front entries row all.
    let same : length entries ≡ length front = length-zip (λ row units. row.units ≡ units) front entries all in
    let named : Bool = is_named (slice_get day.trips (length entries)) row.trip in
    outcome_choice _ _ named _
    (λ other is. both_ways named other (is_then_named day.trips (length entries) row.trip (subst (λ (t : ℕ). NamesTrip day t row) (sym same) is)))
    (λ is not. not (subst (λ (t : ℕ). NamesTrip day t row) same (named_is day.trips (length entries) row.trip is)))
    (λ is. outcome_choice _ [] (are_units day row.units) (Ok row.units) (some_unknown (unit_count day) row.units)
    (λ known (k, u, below, at, past).
    let within : get_or row.units k u < unit_count day = all_known (unit_count day) row.units known k u below in
    absurd (omega arith))
    (λ _. outcome_ok _ _)))
    [] [] rows tt

plan_outcome : (day : Day) (rows : List PlanRow) → Outcome (plan_tests day rows) (plan_of day rows)
unfolding plan_of
plan_outcome day rows = outcome_then (row_tests (run_tests day) [] rows) _ (lists_in day rows) _ (rows_outcome day rows)
    (λ plan is. outcome_guard _ [] (nat_lt (length rows) (length day.trips)) (Ok plan) (ltb-true (length rows) (length day.trips))
    (λ all left. let none : length day.trips ≤ length rows = ltb-false (length rows) (length day.trips) all in absurd (omega arith))
    (λ _. outcome_ok _ _))

pub none_failed : (day : Day) (rows : List PlanRow) (plan : List (List ℕ)) → plan_of day rows ≡ Ok plan → NoneFailed (plan_tests day rows)
none_failed day rows plan e = all_passed (plan_tests day rows) plan (subst (Outcome (plan_tests day rows)) e (plan_outcome day rows))

pub first_failed : (day : Day) (rows : List PlanRow) (d : PlanRefusal) → plan_of day rows ≡ Err d → IsFirstFailed (plan_tests day rows) d
first_failed day rows d e = first_of_failed _ (plan_tests day rows) d (subst (Outcome (plan_tests day rows)) e (plan_outcome day rows))

-- what a call answers is so
pub answer_is_so : (day : Day) (rows : List PlanRow) (answer : Result (List (List ℕ)) PlanRefusal) → Gives is_memory answer (plan_of day rows) → IfErr answer (λ d. Unless (is_memory d) (IsFirstFailed (plan_tests day rows) d))
answer_is_so day rows (Ok plan) e = tt
answer_is_so day rows (Err d) e = Unless-then (is_memory d) (plan_of day rows ≡ Err d) (IsFirstFailed (plan_tests day rows) d) (first_failed day rows d) e
