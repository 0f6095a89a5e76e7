-- What each accepted row of a table is known to be.
use Rattle.std.proofs.Common.{◌≡◌, ℕ, ◌<◌, ◌≤◌, Bool, true, false, List, [], length, get_or, refl, sym, subst, ◌∙◌}
use Rattle.std.proofs.Common.{zero-add, arith, Option, Some, Result, Ok, Err, ltb}
use Rattle.std.specs.Prelude.{min, nat_le, ◌==◌, if◌then◌else◌}
use Rattle.std.specs.List.{All, position_or_len, list_all}
use Rattle.std.specs.Prelude.{◌&&◌}
use Rattle.compositions.specs.UnitTypes.{is_up_to, is_within_limits}
use Rattle.rail_csv.specs.Rows.{LiesBetween}
use Rattle.std.specs.Str.{bytes_eq}
use Rattle.std.proofs.lemmas.Bool.{ltb-true, leb-false, le-leb, and_from}
use Rattle.std.proofs.lemmas.List.Sums.{list_all-from_AllPass}
use Rattle.std.proofs.lemmas.Option.{cond_some}
use Rattle.std.proofs.lemmas.Slice.Eq.{bytes_eq-Decides}
use Rattle.std.proofs.lemmas.List.Elements.{All-nil}
use Rattle.std.proofs.lemmas.List.Quantifiers.{position-Some}
use Rattle.rules.specs.declared.records.UnitType.{UnitType}
use Rattle.rail_csv.specs.declared.rows.TypeRow.{TypeRow}
use Rattle.rail_csv.specs.declared.rows.StationRow.{StationRow}
use Rattle.rail_csv.specs.declared.rows.StockRow.{StockRow}
use Rattle.rail_csv.specs.declared.rows.TripRow.{TripRow}
use Rattle.rail_csv.specs.Rows.{AreTypeRows, IsTypeRow, AreStationRows, IsStationRow, AreTripRows, IsTripRow}
use Rattle.rules.specs.declared.records.Station.{Station}
use Rattle.rules.specs.declared.records.Stock.{Stock}
use Rattle.rules.specs.declared.records.Trip.{Trip}
use Rattle.day_tables.specs.Accepted.{IsUnitType}
use Rattle.rail_csv.specs.declared.rows.Table.TheVariants as tables
use Rattle.day_tables.specs.declared.building.refusal.InstanceRefusal.{InstanceRefusal}
use Rattle.day_tables.specs.declared.building.refusal.InstanceRefusal.TheVariants.{RepeatedName, UnknownName}
use Rattle.day_tables.specs.declared.building.refusal.InstanceRefusal.TheVariants.{RepeatedStock}
use Rattle.day_tables.specs.declared.building.refusal.InstanceRefusal.TheVariants.{ArrivalNotAfterDeparture, SameStation}
use Rattle.day_tables.specs.declared.building.refusal.InstanceRefusal.TheVariants.{NoComposition}
use Rattle.rail_base.specs.Answers.{◌>>=◌}
use Rattle.day_tables.specs.Rowwise.{row_after}
use Rattle.day_tables.specs.Build.{new_stock, trip_between, has_fitting, platform_at, accept_type, types_in, type_in}
use Rattle.day_tables.specs.Build.{accept_station, stations_in, station_in, has_stock, accept_stock, stock_in}
use Rattle.day_tables.specs.Build.{accept_trip, accept_run, trips_in}
use Rattle.day_tables.specs.NamedEntries.{has_name, find_name, found_or}
use Rattle.day_tables.specs.Within.{AreTypes, AreStations, IsStation, IsTripAt, AreTrips}
use Rattle.day_tables.proofs.Accepting.{bind_ok, guard_ok, choice_ok, found_ok, same_ok, accepted_all, accepted_length}

-- the station and the type of a stock row are there
pub record IsStockAt (stations types : ℕ) (row : Stock) : Type 0 where
  pub station : row.station < stations
  pub unit_type : row.unit_type < types

-- a type that was accepted is that of its row, whose name is new
pub type_of_row : (before : List UnitType) (row : TypeRow) (t : UnitType) → accept_type before row ≡ Ok t → (has_name (λ t. t.name) before row.name ≡ false) × (type_in row ≡ t)
unfolding accept_type
type_of_row before row t e =
    let (new, is) = guard_ok _ _ (Ok (type_in row)) t e in
    (new, same_ok _ t is)

type_within : (row : TypeRow) (t : UnitType) → IsTypeRow row → type_in row ≡ t → IsUnitType t
type_within row t is_row e = subst IsUnitType e (record { carriages = is_row.carriages.1; seats = is_row.seats.1; metres = is_row.metres.1; first = is_row.first.1 })

pub are_types : (rows : List TypeRow) (types : List UnitType) → AreTypeRows rows → types_in rows ≡ Ok types → AreTypes types
unfolding types_in
are_types rows types within e = record {
  few = let h : length types ≡ length rows = accepted_length accept_type [] rows types e ∙ zero-add (length rows) in omega (arith, within.few);
  each = accepted_all accept_type IsTypeRow IsUnitType (λ before row t is_row is. type_within row t is_row (type_of_row before row t is).1) [] rows types (All-nil IsUnitType) within.each e;
}

-- the types are within the limits of unit types
type_limits : (row : TypeRow) (t : UnitType) → IsTypeRow row → type_in row ≡ t → is_within_limits t ≡ true
type_limits row t is_row e =
    let at : (low high n : ℕ) → LiesBetween low high n → (nat_le low n && nat_le n high) ≡ true = λ low high n within. and_from (nat_le low n) (nat_le n high) (le-leb low n within.0) (le-leb n high within.1) in
    subst (λ (t : UnitType). is_within_limits t ≡ true) e
    (and_from (is_up_to 20 row.carriages && is_up_to 2000 row.seats && is_up_to 500 row.metres) (nat_le row.first 2000)
    (and_from (is_up_to 20 row.carriages && is_up_to 2000 row.seats) (is_up_to 500 row.metres)
    (and_from (is_up_to 20 row.carriages) (is_up_to 2000 row.seats) (at 1 20 row.carriages is_row.carriages) (at 1 2000 row.seats is_row.seats))
    (at 1 500 row.metres is_row.metres))
    (le-leb row.first 2000 is_row.first.1))

pub types_within_limits : (rows : List TypeRow) (types : List UnitType) → AreTypeRows rows → types_in rows ≡ Ok types → list_all is_within_limits types ≡ true
unfolding types_in
types_within_limits rows types within e = list_all-from_AllPass is_within_limits types
    (accepted_all accept_type IsTypeRow (λ t. is_within_limits t ≡ true) (λ before row t is_row is. type_limits row t is_row (type_of_row before row t is).1) [] rows types (All-nil (λ t. is_within_limits t ≡ true)) within.each e)

-- ---- stations

pub station_of_row : (before : List Station) (row : StationRow) (s : Station) → accept_station before row ≡ Ok s → (has_name (λ s. s.name) before row.name ≡ false) × (station_in row ≡ s)
unfolding accept_station
station_of_row before row s e =
    let (new, is) = guard_ok _ _ (Ok (station_in row)) s e in
    (new, same_ok _ s is)

station_within : (row : StationRow) (s : Station) → IsStationRow row → station_in row ≡ s → IsStation s
station_within row s is_row e = subst IsStation e (record { platform = is_row.platform.1; reallocation = is_row.reallocation.1 })

pub are_stations : (rows : List StationRow) (stations : List Station) → AreStationRows rows → stations_in rows ≡ Ok stations → AreStations stations
unfolding stations_in
are_stations rows stations within e = record {
  few = let h : length stations ≡ length rows = accepted_length accept_station [] rows stations e ∙ zero-add (length rows) in omega (arith, within.few);
  each = accepted_all accept_station IsStationRow IsStation (λ before row s is_row is. station_within row s is_row (station_of_row before row s is).1) [] rows stations (All-nil IsStation) within.each e;
}

-- ---- stock

-- the number of a name is a place where it stands
pub found_name : {X : Type 0} (name_of : X → List ℕ) (entries : List X) (name : List ℕ) (n : ℕ) → find_name name_of entries name ≡ Some n
    → (n < length entries) × ((d : X) → name_of (get_or entries n d) ≡ name)
found_name {X} name_of entries name n e =
    let test : X → Bool = λ entry. bytes_eq (name_of entry) name in
    let (below, is) = cond_some (ltb (position_or_len test entries) (length entries)) (position_or_len test entries) n e in
    let h : position_or_len test entries < length entries = ltb-true (position_or_len test entries) (length entries) below in
    (omega arith, λ d. (bytes_eq-Decides (name_of (get_or entries n d)) name).0 (position-Some test entries n d e).1)

-- the stock that was accepted is that of its row: its names were found, and the pair is new
pub record IsStockOfRow (stations : List Station) (types : List UnitType) (before : List Stock) (row : StockRow) (stock : Stock) : Type 0 where
  pub station : find_name (λ s. s.name) stations row.station ≡ Some stock.station
  pub unit_type : find_name (λ t. t.name) types row.unit_type ≡ Some stock.unit_type
  pub start : stock.start ≡ row.start
  pub end : stock.end ≡ row.end
  pub new : has_stock before stock.station stock.unit_type ≡ false

pub stock_of_row : (stations : List Station) (types : List UnitType) (before : List Stock) (row : StockRow) (stock : Stock) → accept_stock stations types before row ≡ Ok stock → IsStockOfRow stations types before row stock
unfolding accept_stock
stock_of_row stations types before row stock e =
    let at : Option ℕ = find_name (λ s. s.name) stations row.station in
    let of : Option ℕ = find_name (λ t. t.name) types row.unit_type in
    let (s, is_s, e1) = bind_ok (found_or at (UnknownName tables.Stock (row_after before) 0)) (λ s. found_or of (UnknownName tables.Stock (row_after before) 1) >>= (λ m. new_stock before row s m)) stock e in
    let (m, is_m, e2) = bind_ok (found_or of (UnknownName tables.Stock (row_after before) 1)) (λ m. new_stock before row s m) stock e1 in
    let (new, is) = guard_ok (has_stock before s m) (RepeatedStock (row_after before)) (Ok (record { station = s; unit_type = m; start = row.start; end = row.end })) stock e2 in
    let same : record { station = s; unit_type = m; start = row.start; end = row.end } ≡ stock = same_ok _ stock is in
    subst (IsStockOfRow stations types before row) same (record {
      station = found_ok at (UnknownName tables.Stock (row_after before) 0) s is_s;
      unit_type = found_ok of (UnknownName tables.Stock (row_after before) 1) m is_m;
      start = refl;
      end = refl;
      new = new;
    })

stock_within : (stations : List Station) (types : List UnitType) (before : List Stock) (row : StockRow) (stock : Stock) → IsStockOfRow stations types before row stock → IsStockAt (length stations) (length types) stock
stock_within stations types before row stock is = record {
  station = (found_name (λ s. s.name) stations row.station stock.station is.station).0;
  unit_type = (found_name (λ t. t.name) types row.unit_type stock.unit_type is.unit_type).0;
}

pub are_stock : (stations : List Station) (types : List UnitType) (rows : List StockRow) (stock : List Stock) → stock_in stations types rows ≡ Ok stock → All (IsStockAt (length stations) (length types)) stock
unfolding stock_in
are_stock stations types rows stock e =
    accepted_all (accept_stock stations types) (λ _. Unit {0}) (IsStockAt (length stations) (length types))
    (λ before row s _ is. stock_within stations types before row s (stock_of_row stations types before row s is))
    [] rows stock (All-nil (IsStockAt (length stations) (length types))) (λ k d below. tt) e

-- ---- trips

-- the trip that was accepted is that of its row: its name is new, its stations were found and differ, it takes time,
-- and some type fits
pub record IsTripOfRow (stations : List Station) (types : List UnitType) (before : List Trip) (row : TripRow) (trip : Trip) : Type 0 where
  pub new : has_name (λ t. t.name) before row.name ≡ false
  pub from : find_name (λ s. s.name) stations row.from ≡ Some trip.from
  pub to : find_name (λ s. s.name) stations row.to ≡ Some trip.to
  pub is : trip ≡ trip_between row trip.from trip.to
  pub differ : (trip.from == trip.to) ≡ false
  pub time : trip.departure < trip.arrival
  pub fits : has_fitting types (min (platform_at stations trip.from) (platform_at stations trip.to)) ≡ true

-- what the tests on a trip's run leave
pub record Passes (stations : List Station) (types : List UnitType) (trip : Trip) : Type 0 where
  pub differ : (trip.from == trip.to) ≡ false
  pub time : trip.departure < trip.arrival
  pub fits : has_fitting types (min (platform_at stations trip.from) (platform_at stations trip.to)) ≡ true

run_passes : (stations : List Station) (types : List UnitType) (row : ℕ) (trip run : Trip) → accept_run stations types row trip ≡ Ok run → (trip ≡ run) × Passes stations types trip
unfolding accept_run
run_passes stations types row trip run e =
    let fits : Bool = has_fitting types (min (platform_at stations trip.from) (platform_at stations trip.to)) in
    let served : Result Trip InstanceRefusal = if fits then Ok trip else Err (NoComposition row) in
    let (differ, e1) = guard_ok (trip.from == trip.to) (SameStation row) (if nat_le trip.arrival trip.departure then Err (ArrivalNotAfterDeparture row) else served) run e in
    let (later, e2) = guard_ok (nat_le trip.arrival trip.departure) (ArrivalNotAfterDeparture row) served run e1 in
    let (fit, e3) = choice_ok fits (NoComposition row) (Ok trip) run e2 in
    (same_ok trip run e3, record { differ = differ; time = leb-false trip.arrival trip.departure later; fits = fit })

pub trip_of_row : (stations : List Station) (types : List UnitType) (before : List Trip) (row : TripRow) (trip : Trip) → accept_trip stations types before row ≡ Ok trip → IsTripOfRow stations types before row trip
unfolding accept_trip
trip_of_row stations types before row trip e =
    let from : Option ℕ = find_name (λ s. s.name) stations row.from in
    let to : Option ℕ = find_name (λ s. s.name) stations row.to in
    let number : ℕ = row_after before in
    let (new, e1) = guard_ok (has_name (λ t. t.name) before row.name) (RepeatedName tables.Trips number) (found_or from (UnknownName tables.Trips number 1) >>= (λ a. found_or to (UnknownName tables.Trips number 3) >>= (λ b. accept_run stations types number (trip_between row a b)))) trip e in
    let (a, is_a, e2) = bind_ok (found_or from (UnknownName tables.Trips number 1)) (λ a. found_or to (UnknownName tables.Trips number 3) >>= (λ b. accept_run stations types number (trip_between row a b))) trip e1 in
    let (b, is_b, e3) = bind_ok (found_or to (UnknownName tables.Trips number 3)) (λ b. accept_run stations types number (trip_between row a b)) trip e2 in
    let (same, passes) = run_passes stations types number (trip_between row a b) trip e3 in
    subst (IsTripOfRow stations types before row) same (record {
      new = new;
      from = found_ok from (UnknownName tables.Trips number 1) a is_a;
      to = found_ok to (UnknownName tables.Trips number 3) b is_b;
      is = refl;
      differ = passes.differ;
      time = passes.time;
      fits = passes.fits;
    })

trip_within : (stations : List Station) (types : List UnitType) (before : List Trip) (row : TripRow) (trip : Trip) → IsTripRow row → IsTripOfRow stations types before row trip → IsTripAt (length stations) trip
trip_within stations types before row trip is_row is = record {
  time = is.time;
  late = subst (λ (t : Trip). t.arrival < 2880) (sym is.is) is_row.arrival;
  origin = (found_name (λ s. s.name) stations row.from trip.from is.from).0;
  goal = (found_name (λ s. s.name) stations row.to trip.to is.to).0;
  km = subst (λ (t : Trip). t.km ≤ 1000) (sym is.is) is_row.km.1;
  demand = subst (λ (t : Trip). t.demand ≤ 10000) (sym is.is) is_row.demand.1;
  first = subst (λ (t : Trip). t.first ≤ 10000) (sym is.is) is_row.first.1;
}

pub are_trips : (stations : List Station) (types : List UnitType) (rows : List TripRow) (trips : List Trip) → AreTripRows rows → trips_in stations types rows ≡ Ok trips → AreTrips (length stations) trips
unfolding trips_in
are_trips stations types rows trips within e = record {
  few = let h : length trips ≡ length rows = accepted_length (accept_trip stations types) [] rows trips e ∙ zero-add (length rows) in omega (arith, within.few);
  each = accepted_all (accept_trip stations types) IsTripRow (IsTripAt (length stations))
      (λ before row t is_row is. trip_within stations types before row t is_row (trip_of_row stations types before row t is))
      [] rows trips (All-nil (IsTripAt (length stations))) within.each e;
}
