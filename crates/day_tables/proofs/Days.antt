-- The day of accepted entries keeps within the limits.
use Rattle.std.proofs.Common.{◌≡◌, ℕ, suc, zero, ◌<◌, ◌≤◌, List, [], ◌∷◌, length, refl, sym, ap, subst, arith}
use Rattle.std.proofs.Common.{length-append, Option, Some, Result, Ok, Err, slice_get, unwrap_or, replicate}
use Rattle.std.specs.Prelude.{option_map, nat_lt, if◌then◌else◌}
use Rattle.std.specs.List.{All}
use Rattle.std.proofs.lemmas.List.{length-replicate}
use Rattle.std.proofs.lemmas.List.Elements.{All-nil, All-head, All-tail, All-append, All-replicate, All-weaker}
use Rattle.std.proofs.lemmas.Bool.{ltb-false}
use Rattle.compositions.specs.Catalogue.{catalogue_of}
use Rattle.rules.specs.declared.records.UnitType.{UnitType}
use Rattle.rail_csv.specs.Rows.{AreTypeRows, AreStationRows, AreTripRows, AreLinkRows, IsWeightsRow}
use Rattle.rail_csv.specs.declared.rows.LinkRow.{LinkRow}
use Rattle.rules.specs.declared.records.Link.{Link}
use Rattle.rules.specs.declared.records.Station.{Station}
use Rattle.rules.specs.declared.records.Stock.{Stock}
use Rattle.rules.specs.declared.records.Trip.{Trip}
use Rattle.rules.specs.declared.records.Unit as unit
use Rattle.day_tables.specs.declared.building.refusal.InstanceRefusal.{InstanceRefusal}
use Rattle.day_tables.specs.declared.building.refusal.InstanceRefusal.TheVariants.{TooManyUnits, TooManyCompositions}
use Rattle.day_tables.specs.declared.building.tables.Tables.{Tables}
use Rattle.day_tables.specs.Accepted.{IsDay}
use Rattle.rail_base.specs.Answers.{◌>>=◌}
use Rattle.rail_base.specs.declared.limits.TheConstants.{MAX_UNITS, MAX_COMPOSITIONS}
use Rattle.day_tables.specs.Build.{starts_of, catalogue_in, types_in, stations_in, stock_in, trips_in, weights_in}
use Rattle.day_tables.specs.Build.{day_of}
use Rattle.day_tables.specs.Compositions.{greatest_in}
use Rattle.day_tables.specs.Day.{Day, units_in, units_of, leaves, arrives, from_of, to_of, km_of, demand_of}
use Rattle.day_tables.specs.Day.{first_demand_of, home_of, type_of, platform_of, reallocation_of}
use Rattle.day_tables.specs.LinkRows.{accept_link, links_in}
use Rattle.day_tables.specs.Lists.{of_entry}
use Rattle.day_tables.specs.Within.{AreTypes, IsStation, AreStations, IsUnitAt, IsTripAt, AreTrips}
use Rattle.day_tables.specs.Within.{AreWeights}
use Rattle.day_tables.proofs.Accepting.{bind_ok, guard_ok, same_ok, accepted_length}
use Rattle.day_tables.proofs.Entries.{are_types, are_stations, are_stock, are_trips, IsStockAt}

-- an entry that is there
pub entry_at : {X : Type 0} (P : X → Type 0) (xs : List X) (i : ℕ) → i < length xs → All P xs → (x : X) × (slice_get xs i ≡ Some x) × P x
entry_at P [] i below all = absurd (omega arith)
entry_at P (x ∷ xs) zero below all = (x, refl, All-head P x xs all)
entry_at P (x ∷ xs) (suc i) below all = entry_at P xs i (omega arith) (All-tail P x xs all)

pub entry_is : {X : Type 0} (read : X → ℕ) (xs : List X) (i default : ℕ) (x : X) → slice_get xs i ≡ Some x → of_entry read xs i default ≡ read x
entry_is {X} read xs i default x e = ap (λ (o : Option X). unwrap_or (option_map read o) default) e

-- a number that every entry and the default keep within a bound
pub entry_within : {X : Type 0} (read : X → ℕ) (bound : ℕ) (xs : List X) (i default : ℕ) → default ≤ bound → All (λ x. read x ≤ bound) xs → of_entry read xs i default ≤ bound
entry_within read bound [] i default small all = small
entry_within read bound (x ∷ xs) zero default small all = All-head (λ x. read x ≤ bound) x xs all
entry_within read bound (x ∷ xs) (suc i) default small all = entry_within read bound xs i default small (All-tail (λ x. read x ≤ bound) x xs all)

-- there are as many units as the rows say
pub length-units_in : (stock : List Stock) → length (units_in stock) ≡ starts_of stock
length-units_in [] = refl
length-units_in (row ∷ rows) =
    let u : unit.Unit = record { unit_type = row.unit_type; home = row.station } in
    omega (arith, length-append (replicate row.start u) (units_in rows), length-replicate row.start u, length-units_in rows)

-- the home and the type of each unit are there
pub units_within : (stations types : ℕ) (stock : List Stock) → All (IsStockAt stations types) stock → All (IsUnitAt stations types) (units_in stock)
units_within stations types [] all = All-nil (IsUnitAt stations types)
units_within stations types (row ∷ rows) all =
    let here : IsStockAt stations types row = All-head (IsStockAt stations types) row rows all in
    let u : unit.Unit = record { unit_type = row.unit_type; home = row.station } in
    All-append (IsUnitAt stations types) (replicate row.start u) (units_in rows)
    (All-replicate (IsUnitAt stations types) row.start u (record { home = here.station; unit_type = here.unit_type }))
    (units_within stations types rows (All-tail (IsStockAt stations types) row rows all))

-- a day of accepted entries
is_day : (day : Day) → AreTypes day.types → AreStations day.stations → All (IsStockAt (length day.stations) (length day.types)) day.stock → starts_of day.stock ≤ 2000
    → AreTrips (length day.stations) day.trips → length day.links ≤ 400 → AreWeights day.weights → IsDay day
unfolding leaves arrives from_of to_of km_of demand_of first_demand_of home_of type_of platform_of reallocation_of units_of
is_day day types stations stock few trips links weights =
    let trip_at = λ (t : ℕ) (below : t < length day.trips). entry_at (IsTripAt (length day.stations)) day.trips t below trips.each in
    let unit_at = λ (u : ℕ) (below : u < length (units_in day.stock)). entry_at (IsUnitAt (length day.stations) (length day.types)) (units_in day.stock) u below (units_within (length day.stations) (length day.types) day.stock stock) in
    record {
      timetable = record {
        time = λ t below.
            let (trip, is, at) = trip_at t below in
            rw (entry_is (λ trip. trip.departure) day.trips t 0 trip is, entry_is (λ trip. trip.arrival) day.trips t 1 trip is) at.time;
        late = λ t below. let (trip, is, at) = trip_at t below in rw (entry_is (λ trip. trip.arrival) day.trips t 1 trip is) at.late;
        origin = λ t below. let (trip, is, at) = trip_at t below in rw (entry_is (λ trip. trip.from) day.trips t 0 trip is) at.origin;
        goal = λ t below. let (trip, is, at) = trip_at t below in rw (entry_is (λ trip. trip.to) day.trips t 0 trip is) at.goal;
        km = λ t below. let (trip, is, at) = trip_at t below in rw (entry_is (λ trip. trip.km) day.trips t 0 trip is) at.km;
        first_demand = λ t below. let (trip, is, at) = trip_at t below in rw (entry_is (λ trip. trip.first) day.trips t 0 trip is) at.first;
        demand = λ t below. let (trip, is, at) = trip_at t below in rw (entry_is (λ trip. trip.demand) day.trips t 0 trip is) at.demand;
        platform = λ s. entry_within (λ station. station.platform) 1000 day.stations s 0 (omega arith) (All-weaker IsStation (λ station. station.platform ≤ 1000) (λ station is. is.platform) day.stations stations.each);
        reallocation = λ s. entry_within (λ station. station.reallocation) 600 day.stations s 0 (omega arith) (All-weaker IsStation (λ station. station.reallocation ≤ 600) (λ station is. is.reallocation) day.stations stations.each);
        unit_types = types.each;
        type_count = types.few;
        station_count = stations.few;
        trip_count = trips.few;
        link_count = links;
        carriage = weights.carriage;
        shortage = weights.shortage;
        shunting = weights.shunting;
      };
      units = record {
        home = λ u below. let (found, is, at) = unit_at u below in rw (entry_is (λ (u : unit.Unit). u.home) (units_in day.stock) u 0 found is) at.home;
        unit_type = λ u below. let (found, is, at) = unit_at u below in rw (entry_is (λ (u : unit.Unit). u.unit_type) (units_in day.stock) u 0 found is) at.unit_type;
        few = omega (arith, length-units_in day.stock);
      };
    }

-- what each table gave
pub record IsMade (tables : Tables) (day : Day) : Type 0 where
  pub types : types_in tables.types ≡ Ok day.types
  pub stations : stations_in tables.stations ≡ Ok day.stations
  pub stock : stock_in day.stations day.types tables.stock ≡ Ok day.stock
  pub few : starts_of day.stock ≤ 2000
  pub compositions : length (catalogue_of day.types (greatest_in day.stations)) ≤ 1000
  pub trips : trips_in day.stations day.types tables.trips ≡ Ok day.trips
  pub links : links_in day.trips tables.links ≡ Ok day.links
  pub weights : day.weights ≡ weights_in tables.weights

few_compositions : (types : List UnitType) (stations : List Station) (catalogue : List (List ℕ)) → catalogue_in types stations ≡ Ok catalogue → length (catalogue_of types (greatest_in stations)) ≤ 1000
unfolding catalogue_in
few_compositions types stations catalogue e =
    let compositions : List (List ℕ) = catalogue_of types (greatest_in stations) in
    let (few, same) = guard_ok (nat_lt MAX_COMPOSITIONS (length compositions)) TooManyCompositions (Ok compositions) catalogue e in
    ltb-false 1000 (length compositions) few

pub day_is_made : (tables : Tables) (day : Day) → day_of tables ≡ Ok day → IsMade tables day
unfolding day_of
day_is_made tables day e =
    let made : List UnitType → List Station → List Stock → List Trip → List Link → Day = λ types stations stock trips links. record { types = types; stations = stations; stock = stock; trips = trips; links = links; weights = weights_in tables.weights } in
    let with_links : List UnitType → List Station → List Stock → List Trip → Result Day InstanceRefusal = λ types stations stock trips. links_in trips tables.links >>= (λ links. Ok (made types stations stock trips links)) in
    let with_trips : List UnitType → List Station → List Stock → Result Day InstanceRefusal = λ types stations stock. trips_in stations types tables.trips >>= (λ trips. with_links types stations stock trips) in
    let with_catalogue : List UnitType → List Station → List Stock → Result Day InstanceRefusal = λ types stations stock. catalogue_in types stations >>= (λ catalogue. with_trips types stations stock) in
    let with_stock : List UnitType → List Station → List Stock → Result Day InstanceRefusal = λ types stations stock. if nat_lt MAX_UNITS (starts_of stock) then Err TooManyUnits else with_catalogue types stations stock in
    let (types, is_types, e1) = bind_ok (types_in tables.types) (λ types. stations_in tables.stations >>= (λ stations. stock_in stations types tables.stock >>= (λ stock. with_stock types stations stock))) day e in
    let (stations, is_stations, e2) = bind_ok (stations_in tables.stations) (λ stations. stock_in stations types tables.stock >>= (λ stock. with_stock types stations stock)) day e1 in
    let (stock, is_stock, e3) = bind_ok (stock_in stations types tables.stock) (λ stock. with_stock types stations stock) day e2 in
    let (few, e4) = guard_ok (nat_lt MAX_UNITS (starts_of stock)) TooManyUnits (with_catalogue types stations stock) day e3 in
    let (catalogue, is_catalogue, e5) = bind_ok (catalogue_in types stations) (λ catalogue. with_trips types stations stock) day e4 in
    let (trips, is_trips, e6) = bind_ok (trips_in stations types tables.trips) (λ trips. with_links types stations stock trips) day e5 in
    let (links, is_links, e7) = bind_ok (links_in trips tables.links) (λ links. Ok (made types stations stock trips links)) day e6 in
    subst (IsMade tables) {x = made types stations stock trips links} (same_ok (made types stations stock trips links) day e7) (record {
      types = is_types;
      stations = is_stations;
      stock = is_stock;
      few = ltb-false 2000 (starts_of stock) few;
      compositions = few_compositions types stations catalogue is_catalogue;
      trips = is_trips;
      links = is_links;
      weights = refl;
    })

-- there are no more links than rows
pub few_links : (trips : List Trip) (rows : List LinkRow) (links : List Link) → AreLinkRows rows → links_in trips rows ≡ Ok links → length links ≤ 400
unfolding links_in
few_links trips rows links are e = omega (arith, accepted_length (accept_link trips) [] rows links e, are.few)

-- the day of tables whose rows keep within the rules keeps within the limits
pub day_within_limits : (tables : Tables) (day : Day) → AreTypeRows tables.types → AreStationRows tables.stations → AreTripRows tables.trips → AreLinkRows tables.links → IsWeightsRow tables.weights
    → day_of tables ≡ Ok day → IsDay day
day_within_limits tables day types stations trips links weights e =
    let made = day_is_made tables day e in
    is_day day (are_types tables.types day.types types made.types) (are_stations tables.stations day.stations stations made.stations)
    (are_stock day.stations day.types tables.stock day.stock made.stock) made.few
    (are_trips day.stations day.types tables.trips day.trips trips made.trips) (few_links day.trips tables.links day.links links made.links)
    (subst AreWeights (sym made.weights) (record { carriage = weights.carriage.1; shortage = weights.shortage.1; shunting = weights.shunting.1 }))
