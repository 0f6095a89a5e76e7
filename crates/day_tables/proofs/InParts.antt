-- The day in two parts: the yards, and then the trips and links over them.
use Rattle.std.proofs.Common.{◌≡◌, ℕ, Bool, true, false, List, [], refl, sym, ap, ◌∙◌, Result, Ok, Err, cond}
use Rattle.std.specs.Prelude.{nat_lt}
use Rattle.rail_base.proofs.Answers.{Fails-then}
use Rattle.rail_base.specs.Answers.{◌>>=◌, Fails}
use Rattle.rail_base.specs.declared.limits.TheConstants.{MAX_UNITS}
use Rattle.rules.specs.declared.records.UnitType.{UnitType}
use Rattle.rail_csv.specs.declared.rows.TypeRow.{TypeRow}
use Rattle.rail_csv.specs.declared.rows.StationRow.{StationRow}
use Rattle.rail_csv.specs.declared.rows.StockRow.{StockRow}
use Rattle.rail_csv.specs.declared.rows.TripRow.{TripRow}
use Rattle.rail_csv.specs.declared.rows.LinkRow.{LinkRow}
use Rattle.day_tables.specs.declared.building.refusal.InstanceRefusal.{InstanceRefusal}
use Rattle.day_tables.specs.declared.building.refusal.InstanceRefusal.TheVariants.{TooManyUnits}
use Rattle.day_tables.specs.declared.building.tables.Tables.{Tables}
use Rattle.rules.specs.declared.records.Link.{Link}
use Rattle.rules.specs.declared.records.Station.{Station}
use Rattle.rules.specs.declared.records.Stock.{Stock}
use Rattle.rules.specs.declared.records.Trip.{Trip}
use Rattle.day_tables.specs.Build.{accept_type, accept_station, accept_stock, starts_of, types_in, stations_in, stock_in}
use Rattle.day_tables.specs.Build.{catalogue_in, trips_in, weights_in, yards_in, trips_and_links_in, day_over, day_of, is_memory}
use Rattle.day_tables.specs.Day.{Day}
use Rattle.day_tables.specs.LinkRows.{links_in}
use Rattle.day_tables.specs.Rowwise.{accept_each}
use Rattle.day_tables.proofs.Accepting.{bind_ok, guard_ok, same_ok}

-- ---- the yards

-- what is added to yards that have no entries yet
module _ (type_rows : List TypeRow) (station_rows : List StationRow) (stock_rows : List StockRow) (types : List UnitType) (stations : List Station) (stock : List Stock)
    (none : ◌≡◌ {A = List UnitType × List Station × List Stock} (types, stations, stock) ([], [], [])) where
  pub is_types : types_in type_rows ≡ accept_each accept_type types type_rows
  unfolding types_in
  is_types = ap (λ (before : List UnitType). accept_each accept_type before type_rows) (sym (ap (λ (all : List UnitType × List Station × List Stock). all.0) none))

  pub is_stations : stations_in station_rows ≡ accept_each accept_station stations station_rows
  unfolding stations_in
  is_stations = ap (λ (before : List Station). accept_each accept_station before station_rows) (sym (ap (λ (all : List UnitType × List Station × List Stock). all.1) none))

  is_stock : (ts : List UnitType) (ss : List Station) → stock_in ss ts stock_rows ≡ accept_each (accept_stock ss ts) stock stock_rows
  unfolding stock_in
  is_stock ts ss = ap (λ (before : List Stock). accept_each (accept_stock ss ts) before stock_rows) (sym (ap (λ (all : List UnitType × List Station × List Stock). all.2) none))

  pub types_refuse : (d : InstanceRefusal) → Fails is_memory d (accept_each accept_type types type_rows) → Fails is_memory d (yards_in type_rows station_rows stock_rows)
  unfolding yards_in
  types_refuse d fails = Fails-then is_memory d (types_in type_rows) _ (rw (is_types) fails)

  pub stations_refuse : (d : InstanceRefusal) (ts : List UnitType) → accept_each accept_type types type_rows ≡ Ok ts → Fails is_memory d (accept_each accept_station stations station_rows) → Fails is_memory d (yards_in type_rows station_rows stock_rows)
  unfolding yards_in
  stations_refuse d ts e fails = rw (is_types ∙ e) (Fails-then is_memory d (stations_in station_rows) _ (rw (is_stations) fails))

  pub stock_refuses : (d : InstanceRefusal) (ts : List UnitType) (ss : List Station) → accept_each accept_type types type_rows ≡ Ok ts → accept_each accept_station stations station_rows ≡ Ok ss
      → Fails is_memory d (accept_each (accept_stock ss ts) stock stock_rows) → Fails is_memory d (yards_in type_rows station_rows stock_rows)
  unfolding yards_in
  stock_refuses d ts ss e1 e2 fails = rw (is_types ∙ e1, is_stations ∙ e2) (Fails-then is_memory d (stock_in ss ts stock_rows) _ (rw (is_stock ts ss) fails))

  pub units_decide : (ts : List UnitType) (ss : List Station) (ks : List Stock) (many : Bool) → accept_each accept_type types type_rows ≡ Ok ts → accept_each accept_station stations station_rows ≡ Ok ss
      → accept_each (accept_stock ss ts) stock stock_rows ≡ Ok ks → nat_lt MAX_UNITS (starts_of ks) ≡ many → yards_in type_rows station_rows stock_rows ≡ cond many (Err TooManyUnits) (Ok (ts, ss, ks))
  unfolding yards_in
  units_decide ts ss ks many e1 e2 e3 e4 = rw (is_types ∙ e1, is_stations ∙ e2, is_stock ts ss ∙ e3, e4) refl

-- the types and the stations of yards
yard_entries : (type_rows : List TypeRow) (station_rows : List StationRow) (stock_rows : List StockRow) (types : List UnitType) (stations : List Station) (stock : List Stock)
    → yards_in type_rows station_rows stock_rows ≡ Ok (types, stations, stock) → (types_in type_rows ≡ Ok types) × (stations_in station_rows ≡ Ok stations)
unfolding yards_in
yard_entries type_rows station_rows stock_rows types stations stock made =
    let (ts, is_ts, with_types) = bind_ok (types_in type_rows) _ _ made in
    let (ss, is_ss, with_stations) = bind_ok (stations_in station_rows) _ _ with_types in
    let (ks, is_ks, counted) = bind_ok (stock_in ss ts stock_rows) _ _ with_stations in
    let (_, few) = guard_ok (nat_lt MAX_UNITS (starts_of ks)) TooManyUnits _ _ counted in
    let same : ◌≡◌ {A = List UnitType × List Station × List Stock} (ts, ss, ks) (types, stations, stock) = same_ok _ _ few in (
      is_ts ∙ ap (λ (all : List UnitType × List Station × List Stock). Ok all.0) same,
      is_ss ∙ ap (λ (all : List UnitType × List Station × List Stock). Ok all.1) same,
    )

pub yard_types : (type_rows : List TypeRow) (station_rows : List StationRow) (stock_rows : List StockRow) (types : List UnitType) (stations : List Station) (stock : List Stock)
    → yards_in type_rows station_rows stock_rows ≡ Ok (types, stations, stock) → types_in type_rows ≡ Ok types
yard_types type_rows station_rows stock_rows types stations stock made = (yard_entries type_rows station_rows stock_rows types stations stock made).0

pub yard_stations : (type_rows : List TypeRow) (station_rows : List StationRow) (stock_rows : List StockRow) (types : List UnitType) (stations : List Station) (stock : List Stock)
    → yards_in type_rows station_rows stock_rows ≡ Ok (types, stations, stock) → stations_in station_rows ≡ Ok stations
yard_stations type_rows station_rows stock_rows types stations stock made = (yard_entries type_rows station_rows stock_rows types stations stock made).1

-- ---- the whole

-- a step before two others
two_steps : {A B C E : Type 0} (r : Result A E) (f : A → Result B E) (g : A → Result C E) (last : B → Result C E) → ((x : A) → g x ≡ (f x >>= last)) → (r >>= g) ≡ ((r >>= f) >>= last)
two_steps (Ok x) f g last same = same x
two_steps (Err d) f g last same = refl

guard_steps : {B C E : Type 0} (test : Bool) (d : E) (y : B) (last : B → Result C E) → cond test (Err d) (last y) ≡ (cond test (Err d) (Ok y) >>= last)
guard_steps true d y last = refl
guard_steps false d y last = refl

-- the day over yards
abbrev over_yards : Tables → List UnitType × List Station × List Stock → Result Day InstanceRefusal
over_yards tables all = day_over all.0 all.1 all.2 tables.trips tables.links tables.weights

yards_first : (tables : Tables) → day_of tables ≡ (yards_in tables.types tables.stations tables.stock >>= over_yards tables)
unfolding day_of yards_in
yards_first tables =
    two_steps (types_in tables.types) _ _ (over_yards tables) (λ types.
    two_steps (stations_in tables.stations) _ _ (over_yards tables) (λ stations.
    two_steps (stock_in stations types tables.stock) _ _ (over_yards tables) (λ stock.
    guard_steps (nat_lt MAX_UNITS (starts_of stock)) TooManyUnits (types, stations, stock) (over_yards tables))))

pub yards_fail : (tables : Tables) (d : InstanceRefusal) → Fails is_memory d (yards_in tables.types tables.stations tables.stock) → Fails is_memory d (day_of tables)
yards_fail tables d fails = rw (yards_first tables) (Fails-then is_memory d (yards_in tables.types tables.stations tables.stock) (over_yards tables) fails)

-- the trips and links over these types, stations and stock
module _ (tables : Tables) (types : List UnitType) (stations : List Station) (stock : List Stock) (made : yards_in tables.types tables.stations tables.stock ≡ Ok (types, stations, stock)) where
  abbrev with_trips_and_links : List Trip × List Link → Result Day InstanceRefusal
  with_trips_and_links both = Ok (record { types = types; stations = stations; stock = stock; trips = both.0; links = both.1; weights = weights_in tables.weights })

  trips_and_links_last : day_of tables ≡ (trips_and_links_in types stations tables.trips tables.links >>= with_trips_and_links)
  unfolding trips_and_links_in
  trips_and_links_last =
      yards_first tables
      ∙ ap (λ (r : Result (List UnitType × List Station × List Stock) InstanceRefusal). r >>= over_yards tables) made
      ∙ two_steps (catalogue_in types stations) _ _ with_trips_and_links (λ catalogue.
      two_steps (trips_in stations types tables.trips) _ _ with_trips_and_links (λ trips.
      two_steps (links_in trips tables.links) _ _ with_trips_and_links (λ links. refl)))

  pub trips_and_links_fail : (d : InstanceRefusal) → Fails is_memory d (trips_and_links_in types stations tables.trips tables.links) → Fails is_memory d (day_of tables)
  trips_and_links_fail d fails = rw (trips_and_links_last) (Fails-then is_memory d (trips_and_links_in types stations tables.trips tables.links) with_trips_and_links fails)

  pub trips_and_links_make : (trips : List Trip) (links : List Link) → trips_and_links_in types stations tables.trips tables.links ≡ Ok (trips, links)
      → day_of tables ≡ Ok (record { types = types; stations = stations; stock = stock; trips = trips; links = links; weights = weights_in tables.weights })
  trips_and_links_make trips links e = trips_and_links_last ∙ ap (λ (r : Result (List Trip × List Link) InstanceRefusal). r >>= with_trips_and_links) e

-- ---- trips and links

module _ (types : List UnitType) (stations : List Station) (trip_rows : List TripRow) (link_rows : List LinkRow) where
  pub catalogue_refuses : (d : InstanceRefusal) → Fails is_memory d (catalogue_in types stations) → Fails is_memory d (trips_and_links_in types stations trip_rows link_rows)
  unfolding trips_and_links_in
  catalogue_refuses d fails = Fails-then is_memory d (catalogue_in types stations) _ fails

  pub trips_refuse : (d : InstanceRefusal) (catalogue : List (List ℕ)) → catalogue_in types stations ≡ Ok catalogue → Fails is_memory d (trips_in stations types trip_rows) → Fails is_memory d (trips_and_links_in types stations trip_rows link_rows)
  unfolding trips_and_links_in
  trips_refuse d catalogue e fails = rw (e) (Fails-then is_memory d (trips_in stations types trip_rows) _ fails)

  pub links_refuse : (d : InstanceRefusal) (catalogue : List (List ℕ)) (trips : List Trip) → catalogue_in types stations ≡ Ok catalogue → trips_in stations types trip_rows ≡ Ok trips → Fails is_memory d (links_in trips link_rows)
      → Fails is_memory d (trips_and_links_in types stations trip_rows link_rows)
  unfolding trips_and_links_in
  links_refuse d catalogue trips e1 e2 fails = rw (e1, e2) (Fails-then is_memory d (links_in trips link_rows) _ fails)

  pub trips_and_links_said : (catalogue : List (List ℕ)) (trips : List Trip) (links : List Link) → catalogue_in types stations ≡ Ok catalogue → trips_in stations types trip_rows ≡ Ok trips → links_in trips link_rows ≡ Ok links
      → trips_and_links_in types stations trip_rows link_rows ≡ Ok (trips, links)
  unfolding trips_and_links_in
  trips_and_links_said catalogue trips links e1 e2 e3 = rw (e1, e2, e3) refl
