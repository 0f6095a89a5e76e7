-- The day of the tests is the day of the tables in their own words.
use Rattle.std.proofs.Common.{◌≡◌, ◌≢◌, ℕ, ◌<◌, true, false, List, [], length, get_or, refl, sym, ap, subst, ◌∙◌, arith}
use Rattle.std.proofs.Common.{Some, Ok, slice_get}
use Rattle.std.specs.Prelude.{◌==◌, ◌&&◌, min, option_map}
use Rattle.std.specs.List.{All, AllPairs}
use Rattle.std.specs.Str.{bytes_eq}
use Rattle.std.proofs.lemmas.Bool.{and_from, eq-eqb, eqb-false, both_ways}
use Rattle.std.proofs.lemmas.List.Elements.{All-nil}
use Rattle.std.proofs.lemmas.List.Folds.{list_any_at}
use Rattle.std.proofs.lemmas.Option.{slice_get-map, slice_get-get_or}
use Rattle.std.proofs.lemmas.Slice.Eq.{bytes_eq-Decides}
use Rattle.compositions.specs.Composition.{fits_in}
use Rattle.rules.specs.declared.records.UnitType.{UnitType}
use Rattle.rail_csv.specs.declared.rows.LinkRow.{LinkRow}
use Rattle.rail_csv.specs.declared.rows.StationRow.{StationRow}
use Rattle.rail_csv.specs.declared.rows.StockRow.{StockRow}
use Rattle.rail_csv.specs.declared.rows.TripRow.{TripRow}
use Rattle.rail_csv.specs.declared.rows.TypeRow.{TypeRow}
use Rattle.rules.specs.declared.records.Link.{Link}
use Rattle.rules.specs.declared.records.LinkKind.{LinkKind}
use Rattle.rules.specs.declared.records.LinkKind.TheVariants.{Turn, Join, Split}
use Rattle.rules.specs.declared.records.Station.{Station}
use Rattle.rules.specs.declared.records.Stock.{Stock}
use Rattle.rules.specs.declared.records.Trip.{Trip}
use Rattle.day_tables.specs.declared.building.tables.Tables.{Tables}
use Rattle.day_tables.specs.Admissible.{is_admissible}
use Rattle.day_tables.specs.Build.{has_stock, platform_at, accept_type, accept_station, accept_stock, accept_trip}
use Rattle.day_tables.specs.Build.{types_in, stations_in, stock_in, trips_in, day_of}
use Rattle.day_tables.specs.NamedEntries.{has_name, find_name}
use Rattle.day_tables.specs.Compositions.{greatest_platform}
use Rattle.day_tables.specs.Day.{Day, leaves, arrives, from_of, to_of, platform_of, units_of}
use Rattle.day_tables.specs.LinkRows.{accept_link, links_in}
use Rattle.day_tables.specs.Meaning.{IsTypeOf, IsStationOf, AreWeightsOf, IsStockOf, IsTripOf, IsKindOf}
use Rattle.day_tables.specs.NamedEntries.{IsNumberOf}
use Rattle.day_tables.specs.Meaning.{IsLinkOf, IsOtherStock, IsDayOf}
use Rattle.day_tables.specs.NamedEntries.{AreNamedApart}
use Rattle.day_tables.proofs.Accepting.{accepted_all, accepted_zip, accepted_pairs}
use Rattle.day_tables.proofs.Days.{IsMade, entry_at, entry_is, length-units_in, day_is_made}
use Rattle.day_tables.proofs.Entries.{IsStockOfRow, IsTripOfRow, Passes, found_name, type_of_row, station_of_row}
use Rattle.day_tables.proofs.Entries.{stock_of_row, trip_of_row}
use Rattle.day_tables.proofs.Fitting.{fitting_admits}
use Rattle.day_tables.proofs.Linking.{IsFound, IsLinkOfRow, link_of_row, are_links, do_all_meet}

-- a number that was found is that of the name
pub number_found : {X : Type 0} (name_of : X → List ℕ) (entries : List X) (name : List ℕ) (n : ℕ) → find_name name_of entries name ≡ Some n → IsNumberOf name_of entries name n
number_found name_of entries name n e =
    let (below, is) = found_name name_of entries name n e in
    let (x, at, _) = entry_at (λ _. Unit {0}) entries n below (λ k d b. tt) in
    slice_get-map name_of entries n ∙ ap (option_map name_of) (slice_get-get_or entries n x below) ∙ ap Some (is x)

-- a new name is none of those before it
new_name : {X : Type 0} (name_of : X → List ℕ) (before : List X) (name : List ℕ) → has_name name_of before name ≡ false → (k : ℕ) (d : X) → k < length before → name_of (get_or before k d) ≢ name
new_name name_of before name new k d below same =
    both_ways (has_name name_of before name) new (list_any_at (λ entry. bytes_eq (name_of entry) name) before k d below ((bytes_eq-Decides (name_of (get_or before k d)) name).1 same))

-- a new pair of station and type is none of those before it
new_stock_row : (before : List Stock) (stock : Stock) → has_stock before stock.station stock.unit_type ≡ false → (k : ℕ) (d : Stock) → k < length before → IsOtherStock (get_or before k d) stock
new_stock_row before stock new k d below same =
    let at : Stock = get_or before k d in
    both_ways (has_stock before stock.station stock.unit_type) new
    (list_any_at (λ row. (row.station == stock.station) && (row.unit_type == stock.unit_type)) before k d below
    (and_from (at.station == stock.station) (at.unit_type == stock.unit_type) (eq-eqb at.station stock.station same.0) (eq-eqb at.unit_type stock.unit_type same.1)))

-- two names are apart in an empty list
none_apart : {X : Type 0} (R : X → X → Type 0) → AllPairs R []
none_apart R i j d below within = absurd (omega arith)

-- stations that were accepted have names of their own
pub stations_apart : (rows : List StationRow) (stations : List Station) → stations_in rows ≡ Ok stations → AreNamedApart (λ s. s.name) stations
unfolding stations_in
stations_apart rows stations e = accepted_pairs accept_station (λ a b. a.name ≢ b.name)
    (λ before row s is k d below. subst (λ (s : Station). (get_or before k d).name ≢ s.name) (station_of_row before row s is).1 (new_name (λ s. s.name) before row.name (station_of_row before row s is).0 k d below))
    [] rows stations (none_apart (λ a b. a.name ≢ b.name)) e

-- and so have trips
pub trips_apart : (stations : List Station) (types : List UnitType) (rows : List TripRow) (trips : List Trip) → trips_in stations types rows ≡ Ok trips → AreNamedApart (λ t. t.name) trips
unfolding trips_in
trips_apart stations types rows trips e = accepted_pairs (accept_trip stations types) (λ a b. a.name ≢ b.name)
    (λ before row t is k d below.
    let of_row : IsTripOfRow stations types before row t = trip_of_row stations types before row t is in
    subst (λ (t : Trip). (get_or before k d).name ≢ t.name) (sym of_row.is) (new_name (λ t. t.name) before row.name of_row.new k d below))
    [] rows trips (none_apart (λ a b. a.name ≢ b.name)) e

type_said : (before : List UnitType) (row : TypeRow) (t : UnitType) → accept_type before row ≡ Ok t → IsTypeOf row t
type_said before row t e = subst (IsTypeOf row) (type_of_row before row t e).1 (record { name = refl; carriages = refl; seats = refl; metres = refl; family = refl; first = refl })

station_said : (before : List Station) (row : StationRow) (s : Station) → accept_station before row ≡ Ok s → IsStationOf row s
station_said before row s e = subst (IsStationOf row) (station_of_row before row s e).1 (record { name = refl; platform = refl; reallocation = refl })

stock_said : (day : Day) (before : List Stock) (row : StockRow) (stock : Stock) → accept_stock day.stations day.types before row ≡ Ok stock → IsStockOf day row stock
stock_said day before row stock e =
    let is = stock_of_row day.stations day.types before row stock e in
    record {
      station = number_found (λ s. s.name) day.stations row.station stock.station is.station;
      unit_type = number_found (λ t. t.name) day.types row.unit_type stock.unit_type is.unit_type;
      start = is.start;
      end = is.end;
    }

trip_said : (day : Day) (before : List Trip) (row : TripRow) (trip : Trip) → accept_trip day.stations day.types before row ≡ Ok trip → IsTripOf day row trip
trip_said day before row trip e =
    let is = trip_of_row day.stations day.types before row trip e in
    record {
      name = ap (λ (t : Trip). t.name) is.is;
      from = number_found (λ s. s.name) day.stations row.from trip.from is.from;
      departure = ap (λ (t : Trip). t.departure) is.is;
      to = number_found (λ s. s.name) day.stations row.to trip.to is.to;
      arrival = ap (λ (t : Trip). t.arrival) is.is;
      km = ap (λ (t : Trip). t.km) is.is;
      demand = ap (λ (t : Trip). t.demand) is.is;
      first = ap (λ (t : Trip). t.first) is.is;
    }

-- every trip passed the tests on its stations and times
all_pass : (tables : Tables) (day : Day) → IsMade tables day → All (Passes day.stations day.types) day.trips
unfolding trips_in
all_pass tables day made = accepted_all (accept_trip day.stations day.types) (λ _. Unit {0}) (Passes day.stations day.types)
    (λ before row trip _ e.
    let is : IsTripOfRow day.stations day.types before row trip = trip_of_row day.stations day.types before row trip e in
    record { differ = is.differ; time = is.time; fits = is.fits })
    [] tables.trips day.trips (All-nil (Passes day.stations day.types)) (λ k d below. tt) made.trips

-- some composition may run on a trip that passed
trip_served : (day : Day) (t : ℕ) (trip : Trip) → slice_get day.trips t ≡ Some trip → Passes day.stations day.types trip → (types : List ℕ) × (is_admissible day t types ≡ true)
unfolding is_admissible platform_of from_of to_of
trip_served day t trip at passes =
    let longest : ℕ → ℕ → ℕ = λ a b. min (platform_at day.stations a) (platform_at day.stations b) in
    let from : from_of day t ≡ trip.from = entry_is (λ trip. trip.from) day.trips t 0 trip at in
    let to : to_of day t ≡ trip.to = entry_is (λ trip. trip.to) day.trips t 0 trip at in
    let (ms, fits) = fitting_admits day.types (longest trip.from trip.to) passes.fits in
    let same : longest trip.from trip.to ≡ longest (from_of day t) (to_of day t) = ap (λ (a : ℕ). longest a trip.to) (sym from) ∙ ap (λ (b : ℕ). longest (from_of day t) b) (sym to) in
    (ms, subst (λ (n : ℕ). fits_in day.types n ms ≡ true) same fits)

-- the kind that was found is that of the names
kind_said : (trips : List Trip) (row : LinkRow) (kind : LinkKind) → IsKindOf (IsFound trips) row kind → IsKindOf (IsNumberOf (λ t. t.name) trips) row kind
kind_said trips row (Turn a b uncouple couple exchange) is = record {
  kind = is.kind;
  arriving = number_found (λ t. t.name) trips row.arriving a is.arriving;
  no_arriving2 = is.no_arriving2;
  departing = number_found (λ t. t.name) trips row.departing b is.departing;
  no_departing2 = is.no_departing2;
  uncoupling = is.uncoupling;
  coupling = is.coupling;
  exchanging = is.exchanging;
  two_ends = is.two_ends;
}
kind_said trips row (Join a1 a2 b) is = record {
  kind = is.kind;
  arriving = number_found (λ t. t.name) trips row.arriving a1 is.arriving;
  name = is.name;
  named = is.named;
  arriving2 = number_found (λ t. t.name) trips is.name a2 is.arriving2;
  departing = number_found (λ t. t.name) trips row.departing b is.departing;
  no_departing2 = is.no_departing2;
  no_uncoupling = is.no_uncoupling;
  no_coupling = is.no_coupling;
  no_exchange = is.no_exchange;
}
kind_said trips row (Split a b1 b2) is = record {
  kind = is.kind;
  arriving = number_found (λ t. t.name) trips row.arriving a is.arriving;
  no_arriving2 = is.no_arriving2;
  departing = number_found (λ t. t.name) trips row.departing b1 is.departing;
  name = is.name;
  named = is.named;
  departing2 = number_found (λ t. t.name) trips is.name b2 is.departing2;
  no_uncoupling = is.no_uncoupling;
  no_coupling = is.no_coupling;
  no_exchange = is.no_exchange;
}

link_said : (day : Day) (before : List Link) (row : LinkRow) (link : Link) → accept_link day.trips before row ≡ Ok link → IsLinkOf day row link
link_said day before row link e =
    let of_row : IsLinkOfRow day.trips before row link = link_of_row day.trips before row link e in
    record { kind = kind_said day.trips row link.kind of_row.kind; reverse = of_row.reverse }

-- the day that the tests give
pub is_day_of : (tables : Tables) (day : Day) → day_of tables ≡ Ok day → IsDayOf tables day
unfolding types_in stations_in stock_in trips_in links_in leaves arrives from_of to_of units_of greatest_platform
is_day_of tables day e =
    let made = day_is_made tables day e in
    let pass = all_pass tables day made in
    record {
      types = accepted_zip accept_type IsTypeOf type_said [] [] tables.types day.types tt made.types;
      stations = accepted_zip accept_station IsStationOf station_said [] [] tables.stations day.stations tt made.stations;
      stock = accepted_zip (accept_stock day.stations day.types) (IsStockOf day) (stock_said day) [] [] tables.stock day.stock tt made.stock;
      trips = accepted_zip (accept_trip day.stations day.types) (IsTripOf day) (trip_said day) [] [] tables.trips day.trips tt made.trips;
      links = accepted_zip (accept_link day.trips) (IsLinkOf day) (link_said day) [] [] tables.links day.links tt made.links;
      weights = subst (AreWeightsOf tables.weights) (sym made.weights) (record { carriage = refl; shortage = refl; shunting = refl });
      type_names = accepted_pairs accept_type (λ a b. a.name ≢ b.name)
          (λ before row t is k d below. subst (λ (t : UnitType). (get_or before k d).name ≢ t.name) (type_of_row before row t is).1 (new_name (λ t. t.name) before row.name (type_of_row before row t is).0 k d below))
          [] tables.types day.types (none_apart (λ a b. a.name ≢ b.name)) made.types;
      station_names = stations_apart tables.stations day.stations made.stations;
      trip_names = trips_apart day.stations day.types tables.trips day.trips made.trips;
      stock_rows = accepted_pairs (accept_stock day.stations day.types) IsOtherStock
          (λ before row stock is k d below.
          let of_row : IsStockOfRow day.stations day.types before row stock = stock_of_row day.stations day.types before row stock is in
          new_stock_row before stock of_row.new k d below)
          [] tables.stock day.stock (none_apart IsOtherStock) made.stock;
      units = omega (arith, made.few, length-units_in day.stock);
      compositions = made.compositions;
      elsewhere = λ t below same.
          let (trip, at, passes) = entry_at (Passes day.stations day.types) day.trips t below pass in
          eqb-false trip.from trip.to passes.differ (sym (entry_is (λ trip. trip.from) day.trips t 0 trip at) ∙ same ∙ entry_is (λ trip. trip.to) day.trips t 0 trip at);
      later = λ t below.
          let (trip, at, passes) = entry_at (Passes day.stations day.types) day.trips t below pass in
          rw (entry_is (λ trip. trip.departure) day.trips t 0 trip at, entry_is (λ trip. trip.arrival) day.trips t 1 trip at) passes.time;
      served = λ t below.
          let (trip, at, passes) = entry_at (Passes day.stations day.types) day.trips t below pass in
          trip_served day t trip at passes;
      linked = are_links day tables.links made.links;
      meet = do_all_meet day tables.links made.links;
    }
