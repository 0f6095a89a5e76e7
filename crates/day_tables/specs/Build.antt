-- What the tables make: the day, or the first test that fails. Rows are tested in order, each by what the rows before
-- it gave.
use Rattle.std.specs.Prelude.{ℕ, ◌+◌, List, [], ◌∷◌, length, Bool, true, false, ◌&&◌, ◌==◌, nat_le, nat_lt, min}
use Rattle.std.specs.Prelude.{if◌then◌else◌, Result, Ok, Err}
use Rattle.std.specs.List.{list_any}
use Rattle.rail_base.specs.Answers.{◌>>=◌}
use Rattle.rail_base.specs.declared.limits.TheConstants.{MAX_UNITS, MAX_COMPOSITIONS}
use Rattle.compositions.specs.Catalogue.{catalogue_of}
use Rattle.rules.specs.declared.records.UnitType.{UnitType}
use Rattle.rail_csv.specs.declared.rows.TypeRow.{TypeRow}
use Rattle.rail_csv.specs.declared.rows.StationRow.{StationRow}
use Rattle.rail_csv.specs.declared.rows.StockRow.{StockRow}
use Rattle.rail_csv.specs.declared.rows.TripRow.{TripRow}
use Rattle.rail_csv.specs.declared.rows.LinkRow.{LinkRow}
use Rattle.rail_csv.specs.declared.rows.WeightsRow.{WeightsRow}
use Rattle.rail_csv.specs.declared.rows.Table.TheVariants as tables
use Rattle.rules.specs.declared.records.Link.{Link}
use Rattle.rules.specs.declared.records.Station.{Station}
use Rattle.rules.specs.declared.records.Stock.{Stock}
use Rattle.rules.specs.declared.records.Trip.{Trip}
use Rattle.rules.specs.declared.records.Weights.{Weights}
use Rattle.day_tables.specs.declared.building.tables.Tables.{Tables}
use Rattle.day_tables.specs.declared.building.refusal.InstanceRefusal.{InstanceRefusal}
use Rattle.day_tables.specs.declared.building.refusal.InstanceRefusal.TheVariants.{ArrivalNotAfterDeparture, NoMemory}
use Rattle.day_tables.specs.declared.building.refusal.InstanceRefusal.TheVariants.{RepeatedStock, TooManyCompositions}
use Rattle.day_tables.specs.declared.building.refusal.InstanceRefusal.TheVariants.{RepeatedName, NoComposition}
use Rattle.day_tables.specs.declared.building.refusal.InstanceRefusal.TheVariants.{UnknownName, TooManyUnits}
use Rattle.day_tables.specs.declared.building.refusal.InstanceRefusal.TheVariants.{SameStation}
use Rattle.day_tables.specs.Compositions.{greatest_in}
use Rattle.day_tables.specs.Day.{Day}
use Rattle.day_tables.specs.LinkRows.{links_in}
use Rattle.day_tables.specs.Lists.{of_entry}
use Rattle.day_tables.specs.NamedEntries.{has_name, find_name, found_or}
use Rattle.day_tables.specs.Rowwise.{row_after, accept_each}

-- ---- types

-- the type that a row describes
abbrev pub type_in : TypeRow → UnitType
type_in row = record {
  name = row.name;
  carriages = row.carriages;
  seats = row.seats;
  metres = row.metres;
  family = row.family;
  first = row.first;
}

unfoldable pub accept_type : List UnitType → TypeRow → Result UnitType InstanceRefusal
accept_type before row =
    if has_name (λ t. t.name) before row.name then Err (RepeatedName tables.Types (row_after before))
    else Ok (type_in row)

-- ---- stations

-- the station that a row describes
abbrev pub station_in : StationRow → Station
station_in row = record { name = row.name; platform = row.platform; reallocation = row.reallocation }

unfoldable pub accept_station : List Station → StationRow → Result Station InstanceRefusal
accept_station before row =
    if has_name (λ s. s.name) before row.name then Err (RepeatedName tables.Stations (row_after before))
    else Ok (station_in row)

-- ---- stock

abbrev pub has_stock : List Stock → ℕ → ℕ → Bool
has_stock before s m = list_any (λ row. (row.station == s) && (row.unit_type == m)) before

-- the stock of a row whose names were found, where its pair is new
abbrev pub new_stock : List Stock → StockRow → ℕ → ℕ → Result Stock InstanceRefusal
new_stock before row station unit_type =
    if has_stock before station unit_type then Err (RepeatedStock (row_after before))
    else Ok (record { station = station; unit_type = unit_type; start = row.start; end = row.end })

unfoldable pub accept_stock : List Station → List UnitType → List Stock → StockRow → Result Stock InstanceRefusal
accept_stock stations types before row = do
  station ← found_or (find_name (λ s. s.name) stations row.station) (UnknownName tables.Stock (row_after before) 0)
  unit_type ← found_or (find_name (λ t. t.name) types row.unit_type) (UnknownName tables.Stock (row_after before) 1)
  new_stock before row station unit_type

-- the units of all stock rows at the start of the day
abbrev pub starts_of : List Stock → ℕ
starts_of [] = 0
starts_of (row ∷ rows) = row.start + starts_of rows

-- ---- compositions

-- the compositions that fit the greatest platform
unfoldable pub catalogue_in : List UnitType → List Station → Result (List (List ℕ)) InstanceRefusal
catalogue_in types stations =
    if nat_lt MAX_COMPOSITIONS (length (catalogue_of types (greatest_in stations))) then Err TooManyCompositions
    else Ok (catalogue_of types (greatest_in stations))

-- ---- trips

-- the metres of the platform of a station, and 0 where there is no such station
abbrev pub platform_at : List Station → ℕ → ℕ
platform_at stations s = of_entry (λ station. station.platform) stations s 0

-- whether one unit of some type is no longer than so many metres
abbrev pub has_fitting : List UnitType → ℕ → Bool
has_fitting types longest = list_any (λ t. nat_le t.metres longest) types

-- a trip's times and stations, which are known to be there
unfoldable pub accept_run : List Station → List UnitType → ℕ → Trip → Result Trip InstanceRefusal
accept_run stations types row trip =
    if trip.from == trip.to then Err (SameStation row)
    else if nat_le trip.arrival trip.departure then Err (ArrivalNotAfterDeparture row)
    else if has_fitting types (min (platform_at stations trip.from) (platform_at stations trip.to)) then Ok trip
    else Err (NoComposition row)

-- the stations of a row's trip, where its name is new: the first three tests of `accept_trip`, by themselves
unfoldable pub ends_in : List Station → List Trip → TripRow → Result (ℕ × ℕ) InstanceRefusal
ends_in stations before row =
    if has_name (λ t. t.name) before row.name then Err (RepeatedName tables.Trips (row_after before)) else do
      from ← found_or (find_name (λ s. s.name) stations row.from) (UnknownName tables.Trips (row_after before) 1)
      to ← found_or (find_name (λ s. s.name) stations row.to) (UnknownName tables.Trips (row_after before) 3)
      Ok (from, to)

-- the trip of a row between two stations
abbrev pub trip_between : TripRow → ℕ → ℕ → Trip
trip_between row from to = record {
  name = row.name;
  from = from;
  departure = row.departure;
  to = to;
  arrival = row.arrival;
  km = row.km;
  demand = row.demand;
  first = row.first;
}

unfoldable pub accept_trip : List Station → List UnitType → List Trip → TripRow → Result Trip InstanceRefusal
accept_trip stations types before row =
    if has_name (λ t. t.name) before row.name then Err (RepeatedName tables.Trips (row_after before)) else do
      from ← found_or (find_name (λ s. s.name) stations row.from) (UnknownName tables.Trips (row_after before) 1)
      to ← found_or (find_name (λ s. s.name) stations row.to) (UnknownName tables.Trips (row_after before) 3)
      accept_run stations types (row_after before) (trip_between row from to)

-- ---- the day

unfoldable pub types_in : List TypeRow → Result (List UnitType) InstanceRefusal
types_in rows = accept_each accept_type [] rows

unfoldable pub stations_in : List StationRow → Result (List Station) InstanceRefusal
stations_in rows = accept_each accept_station [] rows

unfoldable pub stock_in : List Station → List UnitType → List StockRow → Result (List Stock) InstanceRefusal
stock_in stations types rows = accept_each (accept_stock stations types) [] rows

unfoldable pub trips_in : List Station → List UnitType → List TripRow → Result (List Trip) InstanceRefusal
trips_in stations types rows = accept_each (accept_trip stations types) [] rows

abbrev pub weights_in : WeightsRow → Weights
weights_in row = record { carriage = row.carriage; shortage = row.shortage; shunting = row.shunting }

-- ---- the day in two parts, for the inside of its building

-- The first part of `day_of`: the types, stations and stock that rows make, and then the number of units.
unfoldable pub yards_in : List TypeRow → List StationRow → List StockRow
    → Result (List UnitType × List Station × List Stock) InstanceRefusal
yards_in type_rows station_rows stock_rows = do
  types ← types_in type_rows
  stations ← stations_in station_rows
  stock ← stock_in stations types stock_rows
  if nat_lt MAX_UNITS (starts_of stock) then Err TooManyUnits else Ok (types, stations, stock)

-- What `day_over` adds to the first part: the number of compositions, trips, and then links.
unfoldable pub trips_and_links_in : List UnitType → List Station → List TripRow → List LinkRow
    → Result (List Trip × List Link) InstanceRefusal
trips_and_links_in types stations trip_rows link_rows = do
  catalogue ← catalogue_in types stations
  trips ← trips_in stations types trip_rows
  links ← links_in trips link_rows
  Ok (trips, links)

-- ---- the whole day

-- The day over these types, stations and stock: the number of compositions, trips, and then links.
abbrev pub day_over : List UnitType → List Station → List Stock → List TripRow → List LinkRow → WeightsRow
    → Result Day InstanceRefusal
day_over types stations stock trip_rows link_rows weights = do
  catalogue ← catalogue_in types stations
  trips ← trips_in stations types trip_rows
  links ← links_in trips link_rows
  Ok (record {
    types = types;
    stations = stations;
    stock = stock;
    trips = trips;
    links = links;
    weights = weights_in weights;
  })

-- The day that tables make: types, stations, stock, the number of units, and then what is over them.
unfoldable pub day_of : Tables → Result Day InstanceRefusal
day_of tables = do
  types ← types_in tables.types
  stations ← stations_in tables.stations
  stock ← stock_in stations types tables.stock
  if nat_lt MAX_UNITS (starts_of stock) then Err TooManyUnits
      else day_over types stations stock tables.trips tables.links tables.weights

-- ---- what a call may answer besides

-- want of memory is the one refusal that no test gives
abbrev pub is_memory : InstanceRefusal → Bool
is_memory NoMemory = true
is_memory why = false
