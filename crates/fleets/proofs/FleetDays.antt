-- Tables that make a day make the day with a fleet that fits it.
use Rattle.std.proofs.Common.{◌≡◌, ◌∙◌, ℕ, zero, suc, ◌+◌, ◌*◌, ◌/◌, ◌%◌, ◌<◌, ◌≤◌, List, [], ◌∷◌, length, refl, sym, ap, arith}
use Rattle.std.proofs.Common.{subst}
use Rattle.std.specs.List.{AllZip}
use Rattle.rail_base.specs.declared.limits.TheConstants.{MAX_UNITS, MAX_COMPOSITIONS}
use Rattle.rules.specs.declared.records.UnitType.{UnitType}
use Rattle.rail_csv.specs.declared.rows.LinkRow.{LinkRow}
use Rattle.rail_csv.specs.declared.rows.TripRow.{TripRow}
use Rattle.day_tables.specs.declared.building.tables.Tables.{Tables}
use Rattle.rules.specs.declared.records.Link.{Link}
use Rattle.rules.specs.declared.records.Station.{Station}
use Rattle.rules.specs.declared.records.Stock.{Stock}
use Rattle.rules.specs.declared.records.Trip.{Trip}
use Rattle.timetable.specs.Day.{Day, unit_count, leaves, arrives, from_of, to_of}
use Rattle.timetable.specs.DerivedDays.{with_stock, KeepsTimetable}
use Rattle.timetable.specs.Meaning.{IsStockOf, IsTripOf, IsLinkOf, IsDayOf}
use Rattle.timetable.specs.NamedEntries.{IsNumberOf}
use Rattle.timetable.proofs.Indices.{InRows, in_rows}
use Rattle.timetable.proofs.Meant.{day_is_meant}
use Rattle.timetable.proofs.NumberedUnits.{units_are_numbered}
use Rattle.timetable.proofs.OtherStock.{other_stock_keeps_timetables}
use Rattle.timetable.proofs.Said.{is_day_of}
use Rattle.fleets.specs.Fleets.{fleet_size, FitsDay, stock_from, with_fleet, name_at, rows_from, tables_with}
use Rattle.fleets.specs.Laws.{TablesMakeDaysOfFleets}
use Rattle.fleets.proofs.Places.{starts-stock_from, stock_apart}

zip_so : {A B : Type 0} (R S : A → B → Type 0) → ((x : A) (y : B) → R x y → S x y) → (xs : List A) (ys : List B) → AllZip R xs ys → AllZip S xs ys
zip_so R S each [] [] all = tt
zip_so R S each [] (y ∷ ys) all = absurd all
zip_so R S each (x ∷ xs) [] all = absurd all
zip_so R S each (x ∷ xs) (y ∷ ys) all = (each x y all.0, zip_so R S each xs ys all.1)

-- the name of an entry that is there is its name
name_is : {X : Type 0} (name_of : X → List ℕ) (entries : List X) (k : ℕ) → k < length entries → IsNumberOf name_of entries (name_at name_of entries k) k
name_is name_of [] k lt = absurd (omega arith)
name_is name_of (x ∷ entries) zero lt = refl
name_is name_of (x ∷ entries) (suc k) lt = name_is name_of entries k (omega arith)

module _ (day : Day) (stock : List Stock) where
  abbrev other : Day
  other = with_stock stock day

  rows_mean : (place : ℕ) (fleet : List ℕ) → place + length fleet ≤ length day.stations * length day.types
      → AllZip (IsStockOf other) (rows_from day place fleet) (stock_from (length day.types) place fleet)
  rows_mean place [] within = tt
  rows_mean place (n ∷ fleet) within =
      let at : InRows place (length day.stations) (length day.types) = in_rows place (length day.stations) (length day.types) (omega arith) in (
        record {
          station = name_is (λ (s : Station). s.name) day.stations (place / length day.types) at.row;
          unit_type = name_is (λ (t : UnitType). t.name) day.types (place % length day.types) at.place;
          start = refl;
          end = refl;
        },
        rows_mean (place + 1) fleet (omega arith),
      )

  trip_so : (row : TripRow) (trip : Trip) → IsTripOf day row trip → IsTripOf other row trip
  trip_so row trip is = record {
    name = is.name;
    from = is.from;
    departure = is.departure;
    to = is.to;
    arrival = is.arrival;
    km = is.km;
    demand = is.demand;
    first = is.first;
  }

  link_so : (row : LinkRow) (link : Link) → IsLinkOf day row link → IsLinkOf other row link
  link_so row link is = record { kind = is.kind; reverse = is.reverse }

meant_with : (tables : Tables) (day : Day) (fleet : List ℕ) → IsDayOf tables day → FitsDay day fleet → IsDayOf (tables_with day fleet tables) (with_fleet fleet day)
unfolding from_of to_of leaves arrives
meant_with tables day fleet is fits =
    let stock : List Stock = stock_from (length day.types) 0 fleet in
    let keeps : KeepsTimetable day stock = other_stock_keeps_timetables day stock in
    let units : unit_count (with_stock stock day) ≡ fleet_size fleet =
    (units_are_numbered (with_stock stock day)).all ∙ starts-stock_from (length day.types) 0 fleet in
    record {
      types = is.types;
      stations = is.stations;
      stock = rows_mean day stock 0 fleet (omega (arith, fits.each));
      trips = zip_so (IsTripOf day) (IsTripOf (with_stock stock day)) (trip_so day stock) tables.trips day.trips is.trips;
      links = zip_so (IsLinkOf day) (IsLinkOf (with_stock stock day)) (link_so day stock) tables.links day.links is.links;
      weights = is.weights;
      type_names = is.type_names;
      station_names = is.station_names;
      trip_names = is.trip_names;
      stock_rows = stock_apart (length day.types) 0 fleet;
      units = subst (λ (n : ℕ). n ≤ MAX_UNITS) (sym units) fits.few;
      compositions = subst (λ (n : ℕ). n ≤ MAX_COMPOSITIONS) (sym (ap length keeps.compositions)) is.compositions;
      elsewhere = is.elsewhere;
      later = is.later;
      served = keeps.served is.served;
      linked = keeps.links is.linked;
      meet = keeps.meet is.meet;
    }

pub tables_make_days_of_fleets : TablesMakeDaysOfFleets
tables_make_days_of_fleets tables day fleet made fits =
    day_is_meant (tables_with day fleet tables) (with_fleet fleet day) (meant_with tables day fleet (is_day_of tables day made) fits)
