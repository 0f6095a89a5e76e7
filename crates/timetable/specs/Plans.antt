-- The plan that rows make of a day, or the first row that is wrong.
use Rattle.std.specs.Prelude.{ℕ, ◌≡◌, ◌≤◌, ◌<◌, List, [], ◌∷◌, ◌++◌, length, map, Bool, true, false, nat_lt}
use Rattle.std.specs.Prelude.{if◌then◌else◌, Option, Some, None, Result, Ok, Err, slice_get}
use Rattle.std.specs.List.{All, Any, list_all}
use Rattle.std.specs.Str.{bytes_eq}
use Rattle.rail_base.specs.Answers.{◌>>=◌}
use Rattle.rail_csv.specs.declared.rows.PlanRow.{PlanRow}
use Rattle.rules.specs.declared.records.Trip.{Trip}
use Rattle.day_tables.specs.declared.building.refusal.PlanRefusal.{PlanRefusal}
use Rattle.day_tables.specs.declared.building.refusal.PlanRefusal.TheVariants.{WrongTrip, UnknownUnit, MissingTrip}
use Rattle.day_tables.specs.declared.building.refusal.PlanRefusal.TheVariants.{NoMemory}
use Rattle.timetable.specs.Day.{Day, unit_count}
use Rattle.timetable.specs.Rowwise.{row_after, accept_each}
use Rattle.timetable.specs.Tests.{Test, ◌when◌, row_tests}

-- ---- what rows say

-- the row names trip t of the day, counted from 0
abbrev pub NamesTrip : Day → ℕ → PlanRow → Type 0
NamesTrip day t row = slice_get (map (λ trip. trip.name) day.trips) t ≡ Some row.trip

-- Rows that are right: in order, each names the trip of its number, and its units are units of the day. Trips may be
-- left.
pub record AreRunRows (day : Day) (rows : List PlanRow) : Type 0 where
  pub trips : (t : ℕ) (row : PlanRow) → slice_get rows t ≡ Some row → NamesTrip day t row
  pub units : All (λ row. All (λ u. u < unit_count day) row.units) rows

-- The plan of the rows: all are right, each trip has one, and its units are those that the trip gets, front to rear.
pub record IsPlanOf (day : Day) (rows : List PlanRow) (plan : List (List ℕ)) : Type 0 where
  pub right : AreRunRows day rows
  pub whole : length rows ≡ length day.trips
  pub lists : plan ≡ map (λ row. row.units) rows

-- the tests on a row: it names its trip, and only units of the day
abbrev pub run_tests : Day → ℕ → List PlanRow → PlanRow → List (Test PlanRefusal)
run_tests day number before row =
    WrongTrip number when (¬ NamesTrip day (length before) row)
    ∷ UnknownUnit number when Any (λ u. unit_count day ≤ u) row.units
    ∷ []

-- the tests on all rows in order, and then that no trip is left
abbrev pub plan_tests : Day → List PlanRow → List (Test PlanRefusal)
plan_tests day rows =
    row_tests (run_tests day) [] rows ++ MissingTrip (length rows) when (length rows < length day.trips) ∷ []

-- ---- the tests, row by row

-- whether there is a trip, and it has the name
abbrev pub is_named : Option Trip → List ℕ → Bool
is_named None name = false
is_named (Some trip) name = bytes_eq trip.name name

-- whether each is the number of a unit of the day
abbrev pub are_units : Day → List ℕ → Bool
are_units day units = list_all (λ u. nat_lt u (unit_count day)) units

-- the list of a row, which must name the trip of its number and units of the day
unfoldable pub accept_list : Day → List (List ℕ) → PlanRow → Result (List ℕ) PlanRefusal
accept_list day before row =
    if is_named (slice_get day.trips (length before)) row.trip
    then (if are_units day row.units then Ok row.units else Err (UnknownUnit (row_after before)))
    else Err (WrongTrip (row_after before))

unfoldable pub lists_in : Day → List PlanRow → Result (List (List ℕ)) PlanRefusal
lists_in day rows = accept_each (accept_list day) [] rows

-- the plan of a day that rows make: a list for each trip
unfoldable pub plan_of : Day → List PlanRow → Result (List (List ℕ)) PlanRefusal
plan_of day rows = do
  plan ← lists_in day rows
  if nat_lt (length rows) (length day.trips) then Err (MissingTrip (length rows)) else Ok plan

-- want of memory is the one refusal that no test gives
abbrev pub is_memory : PlanRefusal → Bool
is_memory NoMemory = true
is_memory why = false
