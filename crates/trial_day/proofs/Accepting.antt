-- No test fails on the tables of a trial day.
use Rattle.std.proofs.Common.{◌≡◌, ◌≢◌, inl, inr, ℕ, ◌+◌, ◌/◌, ◌<◌, ◌≤◌, false, List, [], ◌∷◌, ◌++◌, length, get_or}
use Rattle.std.proofs.Common.{map, min, refl, sym, ap, subst, ◌∙◌, arith, Some, None}
use Rattle.std.specs.Prelude.{◌⊎◌, codes}
use Rattle.std.specs.List.{All}
use Rattle.std.proofs.lemmas.List.Elements.{All-from_recursion, All-push, All-head, All-tail, All-contains}
use Rattle.compositions.specs.Catalogue.{catalogue_of, lists_up_to}
use Rattle.compositions.specs.Composition.{fits_in}
use Rattle.rail_csv.specs.declared.rows.LinkRow.{LinkRow}
use Rattle.rail_csv.specs.declared.rows.StationRow.{StationRow}
use Rattle.rail_csv.specs.declared.rows.StockRow.{StockRow}
use Rattle.rail_csv.specs.declared.rows.TripRow.{TripRow}
use Rattle.rail_csv.specs.declared.rows.TypeRow.{TypeRow}
use Rattle.day_tables.specs.declared.building.tables.Tables.{Tables}
use Rattle.timetable.specs.Build.{type_in}
use Rattle.timetable.specs.Lists.{listed}
use Rattle.timetable.specs.Refusals.{HasNoName, IsUnserved, IsNoStation, UsesTwice, NamesArriving, NamesDeparting}
use Rattle.timetable.specs.Refusals.{NamedBefore, HasTripsThat, type_tests, station_tests, stock_tests, count_tests}
use Rattle.timetable.specs.Refusals.{trip_tests, link_tests, day_tests}
use Rattle.timetable.specs.Rowwise.{row_after}
use Rattle.timetable.specs.Tests.{NoneFailed, row_tests}
use Rattle.trial_day.specs.AcceptedTables.{TrialDaysAreAccepted}
use Rattle.trial_day.specs.Trial.{type_a, type_b, trial_types, station_x, station_y, trial_stations, stock_at_x}
use Rattle.trial_day.specs.Trial.{trial_stock, out_name, back_name, begin_minute, drawn_out, drawn_back, pair_rows}
use Rattle.trial_day.specs.Trial.{turn_row, trial_trips, trial_links, trial_tables_of}
use Rattle.trial_day.proofs.Names.{out_apart, back_apart, out_not_back}
use Rattle.trial_day.proofs.Passing.{none_then, none_listed, none_paired, not_any, all_at, all_listed, all_paired}
use Rattle.trial_day.proofs.Passing.{in_joined, length-filter-le}
use Rattle.timetable.proofs.Deciding.{days_are_made}
use Rattle.trial_day.proofs.Within.{pairs_few, tables_within}

-- ---- texts that differ

differ : (xs ys : List ℕ) → (get_or xs 0 0 ≡ get_or ys 0 0 → ⊥) → xs ≡ ys → ⊥
differ xs ys other same = other (ap (λ (bytes : List ℕ). get_or bytes 0 0) same)

a_not_b : codes "A" ≡ codes "B" → ⊥
a_not_b = differ (codes "A") (codes "B") (λ e. absurd (omega (arith, e)))

x_not_y : codes "X" ≡ codes "Y" → ⊥
x_not_y = differ (codes "X") (codes "Y") (λ e. absurd (omega (arith, e)))

-- the name of the first row, and of the second, is that of a row
first_named : {X : Type 0} (name_of : X → List ℕ) (row : X) (rows : List X) → ¬ HasNoName name_of (row ∷ rows) (name_of row)
first_named name_of row rows none = All-head (λ other. name_of other ≢ name_of row) row rows none refl

second_named : {X : Type 0} (name_of : X → List ℕ) (first row : X) (rows : List X) → ¬ HasNoName name_of (first ∷ row ∷ rows) (name_of row)
second_named name_of first row rows none = first_named name_of row rows (All-tail (λ other. name_of other ≢ name_of row) first (row ∷ rows) none)

-- ---- types, stations and stock

types_pass : NoneFailed (row_tests type_tests [] trial_types)
types_pass = (
  not_any (λ (row : TypeRow). row.name ≡ codes "A") [] (All-from_recursion _ [] tt),
  (
    not_any (λ (row : TypeRow). row.name ≡ codes "B") (type_a ∷ []) (All-from_recursion (λ row. ¬ (row.name ≡ codes "B")) (type_a ∷ []) (a_not_b, tt)),
    tt,
  ),
)

stations_pass : NoneFailed (row_tests station_tests [] trial_stations)
stations_pass = (
  not_any (λ (row : StationRow). row.name ≡ codes "X") [] (All-from_recursion _ [] tt),
  (
    not_any (λ (row : StationRow). row.name ≡ codes "Y") (station_x ∷ []) (All-from_recursion (λ row. ¬ (row.name ≡ codes "Y")) (station_x ∷ []) (x_not_y, tt)),
    tt,
  ),
)

no_x : (seed trips : ℕ) → ¬ IsNoStation (trial_tables_of seed trips) (codes "X")
unfolding trial_tables_of
no_x seed trips none = first_named (λ (row : StationRow). row.name) station_x (station_y ∷ []) none

no_y : (seed trips : ℕ) → ¬ IsNoStation (trial_tables_of seed trips) (codes "Y")
unfolding trial_tables_of
no_y seed trips none = second_named (λ (row : StationRow). row.name) station_x station_y [] none

abbrev IsOfA : StockRow → Type 0
IsOfA row = (row.station ≡ codes "X") × (row.unit_type ≡ codes "A")

abbrev IsOfB : StockRow → Type 0
IsOfB row = (row.station ≡ codes "X") × (row.unit_type ≡ codes "B")

stock_passes : (seed trips : ℕ) → NoneFailed (row_tests (stock_tests (trial_tables_of seed trips)) [] (trial_stock trips))
unfolding trial_tables_of
stock_passes seed trips = (
  no_x seed trips,
  (
    (λ none. first_named (λ (row : TypeRow). row.name) type_a (type_b ∷ []) none),
    (
      not_any IsOfA [] (All-from_recursion (λ row. ¬ IsOfA row) [] tt),
      (
        no_x seed trips,
        (
          (λ none. second_named (λ (row : TypeRow). row.name) type_a type_b [] none),
          (
            not_any IsOfB (stock_at_x (codes "A") trips ∷ []) (All-from_recursion (λ row. ¬ IsOfB row) (stock_at_x (codes "A") trips ∷ []) ((λ both. a_not_b both.1), tt)),
            tt,
          ),
        ),
      ),
    ),
  ),
)

-- ---- counts

compositions_few : (seed trips : ℕ) → length (catalogue_of (map type_in trial_types) 240) ≤ 126
unfolding catalogue_of
compositions_few seed trips =
    let all : length (lists_up_to 2 6) ≡ 126 = refl in
    let few : length (catalogue_of (map type_in trial_types) 240) ≤ length (lists_up_to 2 6) = length-filter-le (fits_in (map type_in trial_types) 240) (lists_up_to 2 6) in
    omega arith

counts_pass : (seed trips : ℕ) → trips ≤ 400 → NoneFailed (count_tests (trial_tables_of seed trips))
unfolding trial_tables_of
counts_pass seed trips few = (
  (λ many. absurd (let half = pairs_few trips few in omega arith)),
  (
    (λ many. absurd (let all = compositions_few seed trips in omega arith)),
    tt,
  ),
)

-- ---- trips

-- earlier trips have other names
out_new : (seed pair : ℕ) → pair < 200 → All (λ (row : TripRow). ¬ (row.name ≡ out_name pair)) (trial_trips seed pair)
out_new seed pair small = all_paired (λ row. ¬ (row.name ≡ out_name pair)) (drawn_out seed) (drawn_back seed) pair
    (λ k below same. absurd (let e = out_apart k pair (omega arith) (omega arith) same in omega arith)) (λ k below same. out_not_back pair k (sym same))

back_new : (seed pair : ℕ) → pair < 200 → All (λ (row : TripRow). ¬ (row.name ≡ back_name pair)) (trial_trips seed pair ++ drawn_out seed pair ∷ [])
back_new seed pair small =
    All-push (λ row. ¬ (row.name ≡ back_name pair)) (trial_trips seed pair) (drawn_out seed pair)
    (all_paired (λ row. ¬ (row.name ≡ back_name pair)) (drawn_out seed) (drawn_back seed) pair (λ k below same. out_not_back k pair same)
    (λ k below same. absurd (let e = back_apart k pair (omega arith) (omega arith) same in omega arith)))
    (λ same. out_not_back pair pair same)

-- each platform is 240 metres long
platforms : All (λ (row : StationRow). row.platform ≡ 240) trial_stations
platforms = All-from_recursion (λ row. row.platform ≡ 240) trial_stations (refl, (refl, tt))

-- one unit of type A fits each
served : (seed trips : ℕ) (from to : List ℕ) → ¬ IsUnserved (trial_tables_of seed trips) from to
unfolding trial_tables_of
served seed trips from to unserved =
    let here : unserved.here.platform ≡ 240 = all_at (λ row. row.platform ≡ 240) trial_stations unserved.origin unserved.here platforms unserved.at_origin in
    let there : unserved.there.platform ≡ 240 = all_at (λ row. row.platform ≡ 240) trial_stations unserved.goal unserved.there platforms unserved.at_goal in
    let shorter : min unserved.here.platform unserved.there.platform ≡ 240 = omega arith in
    let unfit : fits_in (map type_in trial_types) 240 (0 ∷ []) ≡ false = subst (λ (n : ℕ). fits_in (map type_in trial_types) n (0 ∷ []) ≡ false) shorter (unserved.unfit (0 ∷ [])) in
    absurd cc

out_passes : (seed trips pair : ℕ) → pair < 200 → (front : List TripRow) → front ≡ trial_trips seed pair → NoneFailed (trip_tests (trial_tables_of seed trips) (row_after front) front (drawn_out seed pair))
out_passes seed trips pair small front is = (
  not_any (λ row. row.name ≡ out_name pair) front (subst (λ (rows : List TripRow). All (λ row. ¬ (row.name ≡ out_name pair)) rows) (sym is) (out_new seed pair small)),
  (
    no_x seed trips,
    (
      no_y seed trips,
      (
        x_not_y,
        (
          (λ late. absurd (omega arith)),
          (
            served seed trips (codes "X") (codes "Y"),
            tt,
          ),
        ),
      ),
    ),
  ),
)

back_passes : (seed trips pair : ℕ) → pair < 200 → (front : List TripRow) → front ≡ trial_trips seed pair ++ drawn_out seed pair ∷ []
    → NoneFailed (trip_tests (trial_tables_of seed trips) (row_after front) front (drawn_back seed pair))
back_passes seed trips pair small front is = (
  not_any (λ row. row.name ≡ back_name pair) front (subst (λ (rows : List TripRow). All (λ row. ¬ (row.name ≡ back_name pair)) rows) (sym is) (back_new seed pair small)),
  (
    no_y seed trips,
    (
      no_x seed trips,
      (
        (λ same. x_not_y (sym same)),
        (
          (λ late. absurd (omega arith)),
          (
            served seed trips (codes "Y") (codes "X"),
            tt,
          ),
        ),
      ),
    ),
  ),
)

trips_pass : (seed trips : ℕ) → trips ≤ 400 → NoneFailed (row_tests (trip_tests (trial_tables_of seed trips)) [] (trial_trips seed (trips / 2)))
trips_pass seed trips few =
    let half = pairs_few trips few in
    none_paired (trip_tests (trial_tables_of seed trips)) (drawn_out seed) (drawn_back seed) (trips / 2)
    (λ k below. out_passes seed trips k (omega arith)) (λ k below. back_passes seed trips k (omega arith))

-- ---- links

-- what is known of a trip by its name
abbrev ArrivesAtY : ℕ → TripRow → Type 0
ArrivesAtY pair row = row.name ≡ out_name pair → (row.to ≡ codes "Y") × (row.arrival ≡ begin_minute pair + 50)

abbrev LeavesY : ℕ → TripRow → Type 0
LeavesY pair row = row.name ≡ back_name pair → (row.from ≡ codes "Y") × (row.departure ≡ begin_minute pair + 60)

arriving_known : (seed pairs pair : ℕ) → pairs ≤ 200 → pair < 200 → All (λ row. ArrivesAtY pair row) (trial_trips seed pairs)
arriving_known seed pairs pair few small = all_paired (λ row. ArrivesAtY pair row) (drawn_out seed) (drawn_back seed) pairs
    (λ k below same. let e : k ≡ pair = out_apart k pair (omega arith) (omega arith) same in (refl, omega arith))
    (λ k below same. absurd (out_not_back pair k (sym same)))

departing_known : (seed pairs pair : ℕ) → pairs ≤ 200 → pair < 200 → All (λ row. LeavesY pair row) (trial_trips seed pairs)
departing_known seed pairs pair few small = all_paired (λ row. LeavesY pair row) (drawn_out seed) (drawn_back seed) pairs
    (λ k below same. absurd (out_not_back k pair same))
    (λ k below same. let e : k ≡ pair = back_apart k pair (omega arith) (omega arith) same in (refl, omega arith))

-- one of two names, of which the second is none
named : (one name : List ℕ) → (one ≡ name) ⊎ (None ≡ Some name) → one ≡ name
named one name (inl same) = same
named one name (inr none) = absurd cc

outs_named : (seed trips pair : ℕ) → pair < trips / 2 → ¬ HasNoName (λ (row : TripRow). row.name) (trial_trips seed (trips / 2)) (out_name pair)
outs_named seed trips pair below none =
    let row : TripRow = drawn_out seed pair in
    All-contains (λ other. other.name ≢ out_name pair) (trial_trips seed (trips / 2)) row none
    (in_joined (pair_rows seed) (trips / 2) pair row below (0, omega arith, refl)) refl

backs_named : (seed trips pair : ℕ) → pair < trips / 2 → ¬ HasNoName (λ (row : TripRow). row.name) (trial_trips seed (trips / 2)) (back_name pair)
backs_named seed trips pair below none =
    let row : TripRow = drawn_back seed pair in
    All-contains (λ other. other.name ≢ back_name pair) (trial_trips seed (trips / 2)) row none
    (in_joined (pair_rows seed) (trips / 2) pair row below (1, omega arith, refl)) refl

-- no earlier turn names a trip of this pair
outs_new : (pair : ℕ) → pair < 200 → ¬ NamedBefore NamesArriving (listed turn_row pair) (turn_row pair)
outs_new pair small (name, names, earlier) =
    not_any (λ (row : LinkRow). NamesArriving row name) (listed turn_row pair)
    (all_listed (λ row. ¬ NamesArriving row name) turn_row pair (λ k below other.
    absurd (let e = out_apart k pair (omega arith) (omega arith) (named (out_name k) name other ∙ sym (named (out_name pair) name names)) in omega arith)))
    earlier

backs_new : (pair : ℕ) → pair < 200 → ¬ NamedBefore NamesDeparting (listed turn_row pair) (turn_row pair)
backs_new pair small (name, names, earlier) =
    not_any (λ (row : LinkRow). NamesDeparting row name) (listed turn_row pair)
    (all_listed (λ row. ¬ NamesDeparting row name) turn_row pair (λ k below other.
    absurd (let e = back_apart k pair (omega arith) (omega arith) (named (back_name k) name other ∙ sym (named (back_name pair) name names)) in omega arith)))
    earlier

once : (pair : ℕ) → pair < 200 → ¬ UsesTwice (listed turn_row pair) (turn_row pair)
once pair small twice = elim twice [
  | inl none ↦ absurd cc
  | inr others ↦ elim others [
    | inl none ↦ absurd cc
    | inr before ↦ elim before [
      | inl arriving ↦ outs_new pair small arriving
      | inr departing ↦ backs_new pair small departing
    ]
  ]
]

-- the trip that arrives for a turn, and the one that departs
turned : (seed trips pair : ℕ) (P : TripRow → TripRow → Type 0) → trips ≤ 400 → pair < 200
    → ((a b : TripRow) → a.to ≡ codes "Y" → a.arrival ≡ begin_minute pair + 50 → b.from ≡ codes "Y" → b.departure ≡ begin_minute pair + 60 → ¬ P a b)
    → ¬ HasTripsThat P (trial_tables_of seed trips) (turn_row pair)
unfolding trial_tables_of
turned seed trips pair P few small never (i, j, a, b, at_a, at_b, named_a, named_b, has) =
    let arriving = all_at (λ row. ArrivesAtY pair row) (trial_trips seed (trips / 2)) i a (arriving_known seed (trips / 2) pair (pairs_few trips few) small) at_a (sym (named (out_name pair) a.name named_a)) in
    let departing = all_at (λ row. LeavesY pair row) (trial_trips seed (trips / 2)) j b (departing_known seed (trips / 2) pair (pairs_few trips few) small) at_b (sym (named (back_name pair) b.name named_b)) in
    never a b arriving.0 arriving.1 departing.0 departing.1 has

turn_passes : (seed trips pair : ℕ) → trips ≤ 400 → pair < trips / 2
    → NoneFailed (link_tests (trial_tables_of seed trips) (row_after (listed turn_row pair)) (listed turn_row pair) (turn_row pair))
unfolding trial_tables_of
turn_passes seed trips pair few below =
    let half = pairs_few trips few in
    let small : pair < 200 = omega arith in (
      (λ wrong. wrong tt),
      (
        outs_named seed trips pair below,
        (
          (λ none. none),
          (
            backs_named seed trips pair below,
            (
              (λ none. none),
              (
                once pair small,
                (
                  turned seed trips pair (λ a b. a.to ≢ b.from) few small (λ a b to arrival from departure apart. apart (to ∙ sym from)),
                  (
                    turned seed trips pair (λ a b. b.departure < a.arrival) few small (λ a b to arrival from departure early. absurd (omega arith)),
                    tt,
                  ),
                ),
              ),
            ),
          ),
        ),
      ),
    )

links_pass : (seed trips : ℕ) → trips ≤ 400 → NoneFailed (row_tests (link_tests (trial_tables_of seed trips)) [] (trial_links (trips / 2)))
links_pass seed trips few = none_listed (link_tests (trial_tables_of seed trips)) turn_row (trips / 2) (λ k below. turn_passes seed trips k few below)

-- ---- all tests

no_test_fails : (seed trips : ℕ) → trips ≤ 400 → NoneFailed (day_tests (trial_tables_of seed trips))
unfolding trial_tables_of
no_test_fails seed trips few =
    let tables : Tables = trial_tables_of seed trips in
    let of_types = row_tests type_tests [] tables.types in
    let of_stations = row_tests station_tests [] tables.stations in
    let of_stock = row_tests (stock_tests tables) [] tables.stock in
    let of_trips = row_tests (trip_tests tables) [] tables.trips in
    let of_links = row_tests (link_tests tables) [] tables.links in
    none_then of_types (of_stations ++ (of_stock ++ (count_tests tables ++ (of_trips ++ of_links)))) types_pass
    (none_then of_stations (of_stock ++ (count_tests tables ++ (of_trips ++ of_links))) stations_pass
    (none_then of_stock (count_tests tables ++ (of_trips ++ of_links)) (stock_passes seed trips)
    (none_then (count_tests tables) (of_trips ++ of_links) (counts_pass seed trips few)
    (none_then of_trips of_links (trips_pass seed trips few) (links_pass seed trips few)))))

-- ---- the law

pub trial_days_are_accepted : TrialDaysAreAccepted
trial_days_are_accepted seed trips size =
    let tables : Tables = trial_tables_of seed trips in
    let passed : NoneFailed (day_tests tables) = no_test_fails seed trips size.few in
    record { within = tables_within seed trips size.few; passed = passed; made = (days_are_made.decided tables).passed.1 passed }
