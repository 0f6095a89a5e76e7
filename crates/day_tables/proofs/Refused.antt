-- The tests of day_of fail where their words say so, and in their order.
use Rattle.std.proofs.Common.{◌≡◌, ℕ, ◌<◌, ◌≤◌, Bool, true, false, List, [], ◌∷◌, map, length, refl, sym, ap, subst}
use Rattle.std.proofs.Common.{◌∙◌, arith, Some, Result, Ok, Err, slice_get}
use Rattle.std.specs.Prelude.{◌==◌, ◌&&◌, min, IfErr, nat_le, nat_lt}
use Rattle.std.specs.List.{AllZip}
use Rattle.std.proofs.lemmas.Bool.{and_parts, and_from, eqb-true, eqb-false, eq-eqb, leb-true, leb-false, ltb-true}
use Rattle.std.proofs.lemmas.Bool.{ltb-false, both_ways}
use Rattle.std.proofs.lemmas.Option.{same_Some, get_or_from_slice_get}
use Rattle.rail_base.specs.Answers.{Unless, Gives}
use Rattle.rail_base.proofs.Answers.{Unless-then}
use Rattle.rail_base.specs.declared.limits.TheConstants.{MAX_UNITS, MAX_COMPOSITIONS}
use Rattle.compositions.specs.Catalogue.{catalogue_of}
use Rattle.compositions.specs.Composition.{fits_in}
use Rattle.rules.specs.declared.records.UnitType.{UnitType}
use Rattle.rail_csv.specs.declared.rows.StationRow.{StationRow}
use Rattle.rail_csv.specs.declared.rows.StockRow.{StockRow}
use Rattle.rail_csv.specs.declared.rows.TypeRow.{TypeRow}
use Rattle.rules.specs.declared.records.Station.{Station}
use Rattle.rules.specs.declared.records.Stock.{Stock}
use Rattle.rules.specs.declared.records.Trip.{Trip}
use Rattle.day_tables.specs.declared.building.refusal.InstanceRefusal.{InstanceRefusal}
use Rattle.day_tables.specs.declared.building.refusal.InstanceRefusal.TheVariants.{TooManyCompositions}
use Rattle.day_tables.specs.declared.building.tables.Tables.{Tables}
use Rattle.day_tables.specs.Build.{has_stock, new_stock, has_fitting, platform_at, accept_type, accept_station}
use Rattle.day_tables.specs.Build.{accept_stock, accept_trip, accept_run, type_in, station_in, types_in, stations_in}
use Rattle.day_tables.specs.Build.{stock_in, trips_in, trip_between, starts_of, catalogue_in, is_memory, day_of}
use Rattle.day_tables.specs.Compositions.{greatest_in}
use Rattle.day_tables.specs.Day.{Day}
use Rattle.day_tables.specs.LinkRows.{links_in}
use Rattle.day_tables.specs.NamedEntries.{AreNamedApart, has_name, find_name}
use Rattle.day_tables.specs.Refusals.{type_tests, station_tests, stock_tests, starts_in, compositions_in, IsUnserved}
use Rattle.day_tables.specs.Refusals.{trip_tests, link_tests, day_tests}
use Rattle.day_tables.specs.Tests.{◌when◌, NoneFailed, IsFirstFailed, row_tests}
use Rattle.day_tables.proofs.Accepting.{any_front, accepted_map, accepted_zip}
use Rattle.day_tables.proofs.Days.{entry_at, entry_is}
use Rattle.day_tables.proofs.Entries.{found_name, type_of_row, station_of_row, stock_of_row, trip_of_row}
use Rattle.day_tables.proofs.Fitting.{fitting_admits, nothing_admitted}
use Rattle.day_tables.proofs.LinksRefused.{links_outcome}
use Rattle.day_tables.proofs.RowNames.{same_name, zip_at, AreNamed, name_repeated, name_new, no_row, some_row}
use Rattle.day_tables.proofs.RowNames.{row_number}
use Rattle.day_tables.proofs.Said.{stations_apart}
use Rattle.day_tables.proofs.Tests.{Outcome, outcome_guard, outcome_choice, outcome_found, outcome_then, outcome_made}
use Rattle.day_tables.proofs.Tests.{outcome_each, outcome_ok, all_passed, first_of_failed, any_entries}

types_outcome : (tables : Tables) → Outcome (row_tests type_tests [] tables.types) (types_in tables.types)
unfolding types_in accept_type
types_outcome tables = outcome_each accept_type type_tests (λ row t. row.name ≡ t.name) (λ before row t is. ap (λ (t : UnitType). t.name) (type_of_row before row t is).1)
    (λ front entries row all. outcome_guard _ [] (has_name (λ t. t.name) entries row.name) (Ok (type_in row))
    (name_repeated (λ row. row.name) (λ t. t.name) front entries all row.name) (name_new (λ row. row.name) (λ t. t.name) front entries all row.name) (λ _. outcome_ok _ _))
    [] [] tables.types tt

stations_outcome : (tables : Tables) → Outcome (row_tests station_tests [] tables.stations) (stations_in tables.stations)
unfolding stations_in accept_station
stations_outcome tables = outcome_each accept_station station_tests (λ row s. row.name ≡ s.name) (λ before row s is. ap (λ (s : Station). s.name) (station_of_row before row s is).1)
    (λ front entries row all. outcome_guard _ [] (has_name (λ s. s.name) entries row.name) (Ok (station_in row))
    (name_repeated (λ row. row.name) (λ s. s.name) front entries all row.name) (name_new (λ row. row.name) (λ s. s.name) front entries all row.name) (λ _. outcome_ok _ _))
    [] [] tables.stations tt

-- ---- stock

stock_outcome : (tables : Tables) (stations : List Station) (types : List UnitType) → AreNamed (λ row. row.name) (λ s. s.name) tables.stations stations → AreNamed (λ row. row.name) (λ t. t.name) tables.types types
    → Outcome (row_tests (stock_tests tables) [] tables.stock) (stock_in stations types tables.stock)
unfolding stock_in accept_stock
stock_outcome tables stations types named_stations named_types =
    let IsOf : StockRow → Stock → Type 0 = λ r b. (find_name (λ s. s.name) stations r.station ≡ Some b.station) × (find_name (λ t. t.name) types r.unit_type ≡ Some b.unit_type) in
    outcome_each (accept_stock stations types) (stock_tests tables) IsOf (λ before row b is. ((stock_of_row stations types before row b is).station, (stock_of_row stations types before row b is).unit_type))
    (λ front entries row all. outcome_found _ _ (find_name (λ s. s.name) stations row.station) _
    (no_row (λ row. row.name) (λ s. s.name) tables.stations stations named_stations row.station) (some_row (λ row. row.name) (λ s. s.name) tables.stations stations named_stations row.station)
    (λ s is_s. outcome_found _ _ (find_name (λ t. t.name) types row.unit_type) (λ m. new_stock entries row s m)
    (no_row (λ row. row.name) (λ t. t.name) tables.types types named_types row.unit_type) (some_row (λ row. row.name) (λ t. t.name) tables.types types named_types row.unit_type)
    (λ m is_m. outcome_guard _ [] (has_stock entries s m) (Ok (record { station = s; unit_type = m; start = row.start; end = row.end }))
    (any_front IsOf (λ b. (b.station == s) && (b.unit_type == m)) (λ r. (r.station ≡ row.station) × (r.unit_type ≡ row.unit_type))
    (λ r b found pass.
    let (at_s, of_m) = and_parts (b.station == s) (b.unit_type == m) pass in (
      same_name (λ s. s.name) stations r.station row.station s (found.0 ∙ ap Some (eqb-true b.station s at_s)) is_s,
      same_name (λ t. t.name) types r.unit_type row.unit_type m (found.1 ∙ ap Some (eqb-true b.unit_type m of_m)) is_m,
    )) front entries all)
    (λ none some. both_ways (has_stock entries s m) none
    (any_entries IsOf (λ b. (b.station == s) && (b.unit_type == m)) (λ r. (r.station ≡ row.station) × (r.unit_type ≡ row.unit_type))
    (λ r b found same. and_from (b.station == s) (b.unit_type == m)
    (eq-eqb b.station s (same_Some b.station s (sym found.0 ∙ ap (find_name (λ s. s.name) stations) same.0 ∙ is_s)))
    (eq-eqb b.unit_type m (same_Some b.unit_type m (sym found.1 ∙ ap (find_name (λ t. t.name) types) same.1 ∙ is_m))))
    front entries all some))
    (λ _. outcome_ok _ _))))
    [] [] tables.stock tt

-- the stock's units are those of its rows
starts_said : (rows : List StockRow) (stock : List Stock) → AllZip (λ row stock. stock.start ≡ row.start) rows stock → starts_of stock ≡ starts_in rows
starts_said [] [] all = refl
starts_said [] (b ∷ bs) all = absurd all
starts_said (r ∷ rs) [] all = absurd all
starts_said (r ∷ rs) (b ∷ bs) all = let here : b.start ≡ r.start = all.0 in omega (arith, starts_said rs bs all.1)

units_said : (stations : List Station) (types : List UnitType) (rows : List StockRow) (stock : List Stock) → stock_in stations types rows ≡ Ok stock → starts_of stock ≡ starts_in rows
unfolding stock_in
units_said stations types rows stock e = starts_said rows stock (accepted_zip (accept_stock stations types) (λ row stock. stock.start ≡ row.start)
    (λ before row b is. (stock_of_row stations types before row b is).start) [] [] rows stock tt e)

-- ---- trips

-- the row of a station that was found, with its platform
found_station : (tables : Tables) (stations : List Station) (name : List ℕ) (n : ℕ) → AllZip (λ row s. station_in row ≡ s) tables.stations stations → find_name (λ s. s.name) stations name ≡ Some n
    → (row : StationRow) × (slice_get tables.stations n ≡ Some row) × (row.name ≡ name) × (platform_at stations n ≡ row.platform)
found_station tables stations name n zip is =
    let (below, at) = found_name (λ s. s.name) stations name n is in
    let (s, there, _) = entry_at (λ _. Unit {0}) stations n below (λ k d b. tt) in
    let (row, here, same) = zip_at (λ row s. station_in row ≡ s) tables.stations stations n s zip there in (
      row,
      here,
      ap (λ (s : Station). s.name) (same ∙ sym (get_or_from_slice_get stations n s s there)) ∙ at s,
      entry_is (λ s. s.platform) stations n 0 s there ∙ ap (λ (s : Station). s.platform) (sym same),
    )

-- no composition may run between two platforms that no type fits
unserved : (tables : Tables) (stations : List Station) (from to : List ℕ) (a b : ℕ) → AllZip (λ row s. station_in row ≡ s) tables.stations stations → find_name (λ s. s.name) stations from ≡ Some a → find_name (λ s. s.name) stations to ≡ Some b
    → has_fitting (map type_in tables.types) (min (platform_at stations a) (platform_at stations b)) ≡ false → IsUnserved tables from to
unserved tables stations from to a b zip is_a is_b none =
    let (here, at_a, named_a, platform_a) = found_station tables stations from a zip is_a in
    let (there, at_b, named_b, platform_b) = found_station tables stations to b zip is_b in
    record {
      origin = a;
      goal = b;
      here = here;
      there = there;
      at_origin = at_a;
      at_goal = at_b;
      named_origin = named_a;
      named_goal = named_b;
      unfit = λ ms. subst (λ (n : ℕ). fits_in (map type_in tables.types) n ms ≡ false) (ap (λ (n : ℕ). min n (platform_at stations b)) platform_a ∙ ap (λ (n : ℕ). min here.platform n) platform_b)
          (nothing_admitted (map type_in tables.types) (min (platform_at stations a) (platform_at stations b)) none ms);
    }

-- one unit of a type that fits may run
served : (tables : Tables) (stations : List Station) (from to : List ℕ) (a b : ℕ) → AllZip (λ row s. station_in row ≡ s) tables.stations stations → AreNamed (λ row. row.name) (λ s. s.name) tables.stations stations → AreNamedApart (λ s. s.name) stations
    → find_name (λ s. s.name) stations from ≡ Some a → find_name (λ s. s.name) stations to ≡ Some b
    → has_fitting (map type_in tables.types) (min (platform_at stations a) (platform_at stations b)) ≡ true → ¬ IsUnserved tables from to
served tables stations from to a b zip named apart is_a is_b some un =
    let types : List UnitType = map type_in tables.types in
    let longest : ℕ = min (platform_at stations a) (platform_at stations b) in
    let origin : un.origin ≡ a = row_number (λ row. row.name) (λ s. s.name) tables.stations stations named un.origin a un.here apart un.at_origin (ap (find_name (λ s. s.name) stations) un.named_origin ∙ is_a) in
    let goal : un.goal ≡ b = row_number (λ row. row.name) (λ s. s.name) tables.stations stations named un.goal b un.there apart un.at_goal (ap (find_name (λ s. s.name) stations) un.named_goal ∙ is_b) in
    let (here, at_a, _, platform_a) = found_station tables stations from a zip is_a in
    let (there, at_b, _, platform_b) = found_station tables stations to b zip is_b in
    let one_a : un.here ≡ here = same_Some un.here here (sym un.at_origin ∙ ap (slice_get tables.stations) origin ∙ at_a) in
    let one_b : un.there ≡ there = same_Some un.there there (sym un.at_goal ∙ ap (slice_get tables.stations) goal ∙ at_b) in
    let metres_a : un.here.platform ≡ platform_at stations a = ap (λ (row : StationRow). row.platform) one_a ∙ sym platform_a in
    let metres_b : un.there.platform ≡ platform_at stations b = ap (λ (row : StationRow). row.platform) one_b ∙ sym platform_b in
    let same : min un.here.platform un.there.platform ≡ longest = ap (λ (n : ℕ). min n un.there.platform) metres_a ∙ ap (λ (n : ℕ). min (platform_at stations a) n) metres_b in
    let (ms, fits) = fitting_admits types longest some in
    both_ways (fits_in types longest ms) (subst (λ (n : ℕ). fits_in types n ms ≡ false) same (un.unfit ms)) fits

trips_outcome : (tables : Tables) (stations : List Station) (types : List UnitType) → stations_in tables.stations ≡ Ok stations → AllZip (λ row s. station_in row ≡ s) tables.stations stations → AreNamed (λ row. row.name) (λ s. s.name) tables.stations stations
    → types ≡ map type_in tables.types → Outcome (row_tests (trip_tests tables) [] tables.trips) (trips_in stations types tables.trips)
unfolding trips_in accept_trip accept_run
trips_outcome tables stations types made zip named are_types =
    let apart : AreNamedApart (λ s. s.name) stations = stations_apart tables.stations stations made in
    let fits : List UnitType → ℕ → ℕ → Bool = λ types a b. has_fitting types (min (platform_at stations a) (platform_at stations b)) in
    outcome_each (accept_trip stations types) (trip_tests tables) (λ row t. row.name ≡ t.name) (λ before row t is. ap (λ (t : Trip). t.name) (sym (trip_of_row stations types before row t is).is))
    (λ front entries row all. outcome_guard _ _ (has_name (λ t. t.name) entries row.name) _
    (name_repeated (λ row. row.name) (λ t. t.name) front entries all row.name) (name_new (λ row. row.name) (λ t. t.name) front entries all row.name)
    (λ new. outcome_found _ _ (find_name (λ s. s.name) stations row.from) _
    (no_row (λ row. row.name) (λ s. s.name) tables.stations stations named row.from) (some_row (λ row. row.name) (λ s. s.name) tables.stations stations named row.from)
    (λ a is_a. outcome_found _ _ (find_name (λ s. s.name) stations row.to) _
    (no_row (λ row. row.name) (λ s. s.name) tables.stations stations named row.to) (some_row (λ row. row.name) (λ s. s.name) tables.stations stations named row.to)
    (λ b is_b. outcome_guard _ _ (a == b) _
    (λ same. same_name (λ s. s.name) stations row.from row.to b (is_a ∙ ap Some (eqb-true a b same)) is_b)
    (λ differ same. eqb-false a b differ (same_Some a b (sym is_a ∙ ap (find_name (λ s. s.name) stations) same ∙ is_b)))
    (λ differ. outcome_guard _ _ (nat_le row.arrival row.departure) _ (leb-true row.arrival row.departure)
    (λ later late. let after : row.departure < row.arrival = leb-false row.arrival row.departure later in absurd (omega arith))
    (λ later. outcome_choice _ [] (fits types a b) (Ok (trip_between row a b))
    (λ none. unserved tables stations row.from row.to a b zip is_a is_b (subst (λ (ts : List UnitType). fits ts a b ≡ false) are_types none))
    (λ some. served tables stations row.from row.to a b zip named apart is_a is_b (subst (λ (ts : List UnitType). fits ts a b ≡ true) are_types some))
    (λ _. outcome_ok _ _)))))))
    [] [] tables.trips tt

-- ---- all tests

compositions_outcome : (tables : Tables) (types : List UnitType) (stations : List Station) → types ≡ map type_in tables.types → stations ≡ map station_in tables.stations
    → Outcome (TooManyCompositions when (MAX_COMPOSITIONS < length (compositions_in tables)) ∷ []) (catalogue_in types stations)
unfolding catalogue_in
compositions_outcome tables types stations are_types are_stations =
    let count : List UnitType → List Station → ℕ = λ types stations. length (catalogue_of types (greatest_in stations)) in
    let same : count types stations ≡ length (compositions_in tables) = ap (λ (ts : List UnitType). count ts stations) are_types ∙ ap (count (map type_in tables.types)) are_stations in
    outcome_guard _ [] (nat_lt MAX_COMPOSITIONS (count types stations)) (Ok (catalogue_of types (greatest_in stations)))
    (λ many. subst (λ (n : ℕ). MAX_COMPOSITIONS < n) same (ltb-true MAX_COMPOSITIONS (count types stations) many))
    (λ few many. let within : count types stations ≤ MAX_COMPOSITIONS = ltb-false MAX_COMPOSITIONS (count types stations) few in absurd (omega arith))
    (λ _. outcome_ok _ _)

types_of_rows : (rows : List TypeRow) (types : List UnitType) → types_in rows ≡ Ok types → (types ≡ map type_in rows) × AreNamed (λ row. row.name) (λ t. t.name) rows types
unfolding types_in
types_of_rows rows types e = (
  accepted_map accept_type type_in (λ before row t is. (type_of_row before row t is).1) [] rows types e,
  accepted_zip accept_type (λ row t. row.name ≡ t.name) (λ before row t is. ap (λ (t : UnitType). t.name) (type_of_row before row t is).1) [] [] rows types tt e,
)

stations_of_rows : (rows : List StationRow) (stations : List Station) → stations_in rows ≡ Ok stations
    → (stations ≡ map station_in rows) × AllZip (λ row s. station_in row ≡ s) rows stations × AreNamed (λ row. row.name) (λ s. s.name) rows stations
unfolding stations_in
stations_of_rows rows stations e = (
  accepted_map accept_station station_in (λ before row s is. (station_of_row before row s is).1) [] rows stations e,
  accepted_zip accept_station (λ row s. station_in row ≡ s) (λ before row s is. (station_of_row before row s is).1) [] [] rows stations tt e,
  accepted_zip accept_station (λ row s. row.name ≡ s.name) (λ before row s is. ap (λ (s : Station). s.name) (station_of_row before row s is).1) [] [] rows stations tt e,
)

day_outcome : (tables : Tables) → Outcome (day_tests tables) (day_of tables)
unfolding day_of
day_outcome tables =
    outcome_then (row_tests type_tests [] tables.types) _ (types_in tables.types) _ (types_outcome tables) (λ types is_types.
    outcome_then (row_tests station_tests [] tables.stations) _ (stations_in tables.stations) _ (stations_outcome tables) (λ stations is_stations.
    let (are_types, named_types) = types_of_rows tables.types types is_types in
    let (are_stations, zip, named_stations) = stations_of_rows tables.stations stations is_stations in
    outcome_then (row_tests (stock_tests tables) [] tables.stock) _ (stock_in stations types tables.stock) _ (stock_outcome tables stations types named_stations named_types) (λ stock is_stock.
    let units : starts_of stock ≡ starts_in tables.stock = units_said stations types tables.stock stock is_stock in
    outcome_guard _ _ (nat_lt MAX_UNITS (starts_of stock)) _
    (λ many. subst (λ (n : ℕ). MAX_UNITS < n) units (ltb-true MAX_UNITS (starts_of stock) many))
    (λ few many. let within : starts_of stock ≤ MAX_UNITS = ltb-false MAX_UNITS (starts_of stock) few in absurd (omega arith))
    (λ few. outcome_then (TooManyCompositions when (MAX_COMPOSITIONS < length (compositions_in tables)) ∷ []) _ (catalogue_in types stations) _ (compositions_outcome tables types stations are_types are_stations) (λ catalogue is_catalogue.
    outcome_then (row_tests (trip_tests tables) [] tables.trips) _ (trips_in stations types tables.trips) _ (trips_outcome tables stations types is_stations zip named_stations are_types) (λ trips is_trips.
    outcome_made (row_tests (link_tests tables) [] tables.links) (links_in trips tables.links) _ (links_outcome tables stations types trips is_trips)))))))

pub none_failed : (tables : Tables) (day : Day) → day_of tables ≡ Ok day → NoneFailed (day_tests tables)
none_failed tables day e = all_passed (day_tests tables) day (subst (Outcome (day_tests tables)) e (day_outcome tables))

pub first_failed : (tables : Tables) (d : InstanceRefusal) → day_of tables ≡ Err d → IsFirstFailed (day_tests tables) d
first_failed tables d e = first_of_failed _ (day_tests tables) d (subst (Outcome (day_tests tables)) e (day_outcome tables))

-- what a call answers is so
pub answer_is_so : (tables : Tables) (answer : Result Day InstanceRefusal) → Gives is_memory answer (day_of tables) → IfErr answer (λ d. Unless (is_memory d) (IsFirstFailed (day_tests tables) d))
answer_is_so tables (Ok day) e = tt
answer_is_so tables (Err d) e = Unless-then (is_memory d) (day_of tables ≡ Err d) (IsFirstFailed (day_tests tables) d) (first_failed tables d) e
