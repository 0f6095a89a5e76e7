-- Tables that make a day make the day without some trips.
use Rattle.std.proofs.Common.{◌≡◌, ◌≢◌, ◌∙◌, ℕ, ◌<◌, Bool, true, false, List, [], ◌∷◌, ◌++◌, length, map, refl, sym, ap, subst}
use Rattle.std.proofs.Common.{Option, Some, slice_get, unwrap_or, position, IsTrue}
use Rattle.std.specs.Prelude.{not, ◌||◌, min, option_map, option_to_list, filter, if◌then◌else◌}
use Rattle.std.specs.List.{AllZip, list_any}
use Rattle.std.specs.Str.{bytes_eq}
use Rattle.std.proofs.lemmas.Bool.{or_parts}
use Rattle.std.proofs.lemmas.Option.{slice_get_within}
use Rattle.compositions.specs.Composition.{fits_in}
use Rattle.rail_csv.specs.declared.rows.LinkRow.{LinkRow}
use Rattle.rail_csv.specs.declared.rows.StockRow.{StockRow}
use Rattle.rail_csv.specs.declared.rows.TripRow.{TripRow}
use Rattle.rules.specs.declared.records.Link.{Link}
use Rattle.rules.specs.declared.records.LinkKind.{LinkKind}
use Rattle.rules.specs.declared.records.LinkKind.TheVariants.{Turn, Join, Split}
use Rattle.rules.specs.declared.records.Stock.{Stock}
use Rattle.rules.specs.declared.records.Trip.{Trip}
use Rattle.day_tables.specs.declared.building.tables.Tables.{Tables}
use Rattle.day_tables.specs.Accepted.{AreLinks, DoMeet}
use Rattle.day_tables.specs.Admissible.{is_admissible}
use Rattle.day_tables.specs.Compositions.{greatest_platform}
use Rattle.day_tables.specs.Day.{Day, leaves, arrives, from_of, to_of, platform_of, units_of}
use Rattle.day_tables.specs.DerivedDays.{left_from, new_number, kind_with, link_with, names_gone, links_left}
use Rattle.day_tables.specs.DerivedDays.{without_trips, is_gone, row_names_gone, tables_without, TablesMakeDaysWithout}
use Rattle.day_tables.specs.Links.{arriving_in, departing_in}
use Rattle.day_tables.specs.Lists.{of_entry, has}
use Rattle.day_tables.specs.Meaning.{IsStockOf, IsTripOf, IsKindOf, IsLinkOf, IsDayOf}
use Rattle.day_tables.specs.NamedEntries.{IsNumberOf, find_name}
use Rattle.day_tables.proofs.Days.{entry_at}
use Rattle.day_tables.proofs.LeftEntries.{left_at, was_at, left_pairs, left_zip, left_map}
use Rattle.day_tables.proofs.LeftLinks.{WasLink, WasTrip, arriving_then, departing_then, arriving_stay, departing_stay}
use Rattle.day_tables.proofs.LeftLinks.{was_trip, was_link, link_step, once_then}
use Rattle.day_tables.proofs.Meant.{day_is_meant}
use Rattle.day_tables.proofs.Names.{position_map}
use Rattle.day_tables.proofs.RowNames.{number_is_found}
use Rattle.day_tables.proofs.Said.{is_day_of}

zip_weaker : {A B : Type 0} (R S : A → B → Type 0) → ((x : A) (y : B) → R x y → S x y) → (xs : List A) (ys : List B) → AllZip R xs ys → AllZip S xs ys
zip_weaker R S each [] [] all = tt
zip_weaker R S each [] (y ∷ ys) all = absurd all
zip_weaker R S each (x ∷ xs) [] all = absurd all
zip_weaker R S each (x ∷ xs) (y ∷ ys) all = (each x y all.0, zip_weaker R S each xs ys all.1)

-- the rows of trips have their names
named_alike : (day : Day) (rows : List TripRow) (trips : List Trip) → AllZip (IsTripOf day) rows trips → map (λ row. row.name) rows ≡ map (λ t. t.name) trips
named_alike day [] [] all = refl
named_alike day [] (t ∷ trips) all = absurd all
named_alike day (row ∷ rows) [] all = absurd all
named_alike day (row ∷ rows) (t ∷ trips) all = let is = all.0 in λ i. sym is.name i ∷ named_alike day rows trips all.1 i

row_step : (keep : LinkRow → Bool) (b : Bool) (row : LinkRow) (rows : List LinkRow) → keep row ≡ b → filter (λ row. not (keep row)) (row ∷ rows) ≡ (if b then filter (λ row. not (keep row)) rows else row ∷ filter (λ row. not (keep row)) rows)
row_step keep true row rows is = ap (λ (b : Bool). if not b then row ∷ filter (λ row. not (keep row)) rows else filter (λ row. not (keep row)) rows) is
row_step keep false row rows is = ap (λ (b : Bool). if not b then row ∷ filter (λ row. not (keep row)) rows else filter (λ row. not (keep row)) rows) is

module _ (tables : Tables) (day : Day) (gone : List ℕ) (is : IsDayOf tables day) where
  -- the number of a name then
  number_then : (name : List ℕ) (t : ℕ) → IsNumberOf (λ t. t.name) day.trips name t → has t gone ≡ false → IsNumberOf (λ t. t.name) (without_trips gone day).trips name (new_number gone t)
  number_then name t at stays =
      ap (λ (names : List (List ℕ)). slice_get names (new_number gone t)) (left_map gone (λ (t : Trip). t.name) day.trips 0)
      ∙ left_at gone (map (λ t. t.name) day.trips) t name at stays

  -- the row of a name is gone where its trip is
  gone_alike : (name : List ℕ) (t : ℕ) → IsNumberOf (λ t. t.name) day.trips name t → is_gone tables.trips gone name ≡ has t gone
  gone_alike name t at =
      let test : List ℕ → Bool = λ n. bytes_eq n name in
      let found : find_name (λ (row : TripRow). row.name) tables.trips name ≡ Some t =
      sym (position_map test (λ (row : TripRow). row.name) tables.trips)
      ∙ ap (position test) (named_alike day tables.trips day.trips is.trips)
      ∙ position_map test (λ (t : Trip). t.name) day.trips
      ∙ number_is_found (λ t. t.name) day.trips name t is.trip_names at in
      ap (λ (o : Option ℕ). unwrap_or (option_map (λ t. has t gone) o) false) found

  -- a row names a trip that is gone where its link does
  rows_alike : (row : LinkRow) (kind : LinkKind) → IsKindOf (IsNumberOf (λ t. t.name) day.trips) row kind → row_names_gone tables.trips gone row ≡ names_gone gone kind
  unfolding row_names_gone
  rows_alike row (Turn a b uncouple couple exchange) of_row =
      let at_a : is_gone tables.trips gone row.arriving ≡ has a gone = gone_alike row.arriving a of_row.arriving in
      let at_b : is_gone tables.trips gone row.departing ≡ has b gone = gone_alike row.departing b of_row.departing in
      (λ i. list_any (is_gone tables.trips gone) ((row.arriving ∷ option_to_list (of_row.no_arriving2 i)) ++ (row.departing ∷ option_to_list (of_row.no_departing2 i))))
      ∙ (λ i. at_a i || (at_b i || false))
  rows_alike row (Join a1 a2 b) of_row =
      let at_a1 : is_gone tables.trips gone row.arriving ≡ has a1 gone = gone_alike row.arriving a1 of_row.arriving in
      let at_a2 : is_gone tables.trips gone of_row.name ≡ has a2 gone = gone_alike of_row.name a2 of_row.arriving2 in
      let at_b : is_gone tables.trips gone row.departing ≡ has b gone = gone_alike row.departing b of_row.departing in
      (λ i. list_any (is_gone tables.trips gone) ((row.arriving ∷ option_to_list (of_row.named i)) ++ (row.departing ∷ option_to_list (of_row.no_departing2 i))))
      ∙ (λ i. at_a1 i || (at_a2 i || (at_b i || false)))
  rows_alike row (Split a b1 b2) of_row =
      let at_a : is_gone tables.trips gone row.arriving ≡ has a gone = gone_alike row.arriving a of_row.arriving in
      let at_b1 : is_gone tables.trips gone row.departing ≡ has b1 gone = gone_alike row.departing b1 of_row.departing in
      let at_b2 : is_gone tables.trips gone of_row.name ≡ has b2 gone = gone_alike of_row.name b2 of_row.departing2 in
      (λ i. list_any (is_gone tables.trips gone) ((row.arriving ∷ option_to_list (of_row.no_arriving2 i)) ++ (row.departing ∷ option_to_list (of_row.named i))))
      ∙ (λ i. at_a i || (at_b1 i || (at_b2 i || false)))

  -- the kind of a row whose trips stay, with their numbers then
  kind_then : (row : LinkRow) (kind : LinkKind) → IsKindOf (IsNumberOf (λ t. t.name) day.trips) row kind → names_gone gone kind ≡ false
      → IsKindOf (IsNumberOf (λ t. t.name) (without_trips gone day).trips) row (kind_with (new_number gone) kind)
  kind_then row (Turn a b uncouple couple exchange) of_row stay =
      let (stays_a, rest) = or_parts (has a gone) (has b gone || false) stay in
      let (stays_b, _) = or_parts (has b gone) false rest in
      record {
        kind = of_row.kind;
        arriving = number_then row.arriving a of_row.arriving stays_a;
        no_arriving2 = of_row.no_arriving2;
        departing = number_then row.departing b of_row.departing stays_b;
        no_departing2 = of_row.no_departing2;
        uncoupling = of_row.uncoupling;
        coupling = of_row.coupling;
        exchanging = of_row.exchanging;
        two_ends = of_row.two_ends;
      }
  kind_then row (Join a1 a2 b) of_row stay =
      let (stays_a1, rest) = or_parts (has a1 gone) (has a2 gone || (has b gone || false)) stay in
      let (stays_a2, rest2) = or_parts (has a2 gone) (has b gone || false) rest in
      let (stays_b, _) = or_parts (has b gone) false rest2 in
      record {
        kind = of_row.kind;
        arriving = number_then row.arriving a1 of_row.arriving stays_a1;
        name = of_row.name;
        named = of_row.named;
        arriving2 = number_then of_row.name a2 of_row.arriving2 stays_a2;
        departing = number_then row.departing b of_row.departing stays_b;
        no_departing2 = of_row.no_departing2;
        no_uncoupling = of_row.no_uncoupling;
        no_coupling = of_row.no_coupling;
        no_exchange = of_row.no_exchange;
      }
  kind_then row (Split a b1 b2) of_row stay =
      let (stays_a, rest) = or_parts (has a gone) (has b1 gone || (has b2 gone || false)) stay in
      let (stays_b1, rest2) = or_parts (has b1 gone) (has b2 gone || false) rest in
      let (stays_b2, _) = or_parts (has b2 gone) false rest2 in
      record {
        kind = of_row.kind;
        arriving = number_then row.arriving a of_row.arriving stays_a;
        no_arriving2 = of_row.no_arriving2;
        departing = number_then row.departing b1 of_row.departing stays_b1;
        name = of_row.name;
        named = of_row.named;
        departing2 = number_then of_row.name b2 of_row.departing2 stays_b2;
        no_uncoupling = of_row.no_uncoupling;
        no_coupling = of_row.no_coupling;
        no_exchange = of_row.no_exchange;
      }

  links_step : (b : Bool) (row : LinkRow) (link : Link) (rows : List LinkRow) (links : List Link) → names_gone gone link.kind ≡ b → IsLinkOf day row link
      → AllZip (IsLinkOf (without_trips gone day)) rows links → AllZip (IsLinkOf (without_trips gone day)) (if b then rows else row ∷ rows) (if b then links else link_with (new_number gone) link ∷ links)
  links_step true row link rows links stay of_row later = later
  links_step false row link rows links stay of_row later = (record { kind = kind_then row link.kind of_row.kind stay; reverse = of_row.reverse }, later)

  links_zip : (rows : List LinkRow) (links : List Link) → AllZip (IsLinkOf day) rows links
      → AllZip (IsLinkOf (without_trips gone day)) (filter (λ row. not (row_names_gone tables.trips gone row)) rows) (links_left gone links)
  links_zip [] [] all = tt
  links_zip [] (link ∷ links) all = absurd all
  links_zip (row ∷ rows) [] all = absurd all
  links_zip (row ∷ rows) (link ∷ links) all =
      let of_row : IsLinkOf day row link = all.0 in
      let b : Bool = names_gone gone link.kind in
      subst (λ (rows : List LinkRow). AllZip (IsLinkOf (without_trips gone day)) rows (links_left gone (link ∷ links))) (sym (row_step (row_names_gone tables.trips gone) b row rows (rows_alike row link.kind of_row.kind)))
      (subst (λ (links : List Link). AllZip (IsLinkOf (without_trips gone day)) (if b then filter (λ row. not (row_names_gone tables.trips gone row)) rows else row ∷ filter (λ row. not (row_names_gone tables.trips gone row)) rows) links) (sym (link_step gone b link links refl))
      (links_step b row link (filter (λ row. not (row_names_gone tables.trips gone row)) rows) (links_left gone links) refl of_row (links_zip rows links all.1)))

  -- ---- trips

  -- a trip that stays is there then
  trip_then : (t : ℕ) → t < length day.trips → has t gone ≡ false → slice_get (without_trips gone day).trips (new_number gone t) ≡ slice_get day.trips t
  trip_then t below stays =
      let (trip, at, _) = entry_at (λ _. Unit {0}) day.trips t below (λ k d b. tt) in
      left_at gone day.trips t trip at stays ∙ sym at

  within_then : (t : ℕ) → t < length day.trips → has t gone ≡ false → new_number gone t < length (without_trips gone day).trips
  within_then t below stays =
      let (trip, at, _) = entry_at (λ _. Unit {0}) day.trips t below (λ k d b. tt) in
      slice_get_within (without_trips gone day).trips (new_number gone t) trip (left_at gone day.trips t trip at stays)

  -- a trip of then was there
  trip_before : (t : ℕ) → t < length (without_trips gone day).trips → (k : ℕ) × (k < length day.trips) × (slice_get (without_trips gone day).trips t ≡ slice_get day.trips k)
  trip_before t below =
      let (trip, at, _) = entry_at (λ _. Unit {0}) (without_trips gone day).trips t below (λ k d b. tt) in
      let (k, before, stays, same) = was_at gone day.trips t trip at in
      (k, slice_get_within day.trips k trip before, at ∙ sym before)

  reads : (read : Trip → ℕ) (default t k : ℕ) → slice_get (without_trips gone day).trips t ≡ slice_get day.trips k → of_entry read (without_trips gone day).trips t default ≡ of_entry read day.trips k default
  reads read default t k same = ap (λ (o : Option Trip). unwrap_or (option_map read o) default) same

  -- ---- links

  arriver : (t : ℕ) (link : Link) (was : WasLink gone day.links link) → IsTrue (has t (arriving_in link.kind)) → WasTrip gone (arriving_in was.before.kind) t
  arriver t link was here =
      was_trip gone (arriving_in was.before.kind) t (arriving_stay gone was.before.kind was.stays)
      (subst (λ (ts : List ℕ). IsTrue (has t ts)) (ap (λ (l : Link). arriving_in l.kind) (sym was.is) ∙ arriving_then (new_number gone) was.before.kind) here)

  leaver : (t : ℕ) (link : Link) (was : WasLink gone day.links link) → IsTrue (has t (departing_in link.kind)) → WasTrip gone (departing_in was.before.kind) t
  leaver t link was here =
      was_trip gone (departing_in was.before.kind) t (departing_stay gone was.before.kind was.stays)
      (subst (λ (ts : List ℕ). IsTrue (has t ts)) (ap (λ (l : Link). departing_in l.kind) (sym was.is) ∙ departing_then (new_number gone) was.before.kind) here)

  -- what it reads of a trip that stays
  was_read : (read : Trip → ℕ) (default t : ℕ) (ts : List ℕ) (was : WasTrip gone ts t) → was.before < length day.trips → of_entry read (without_trips gone day).trips t default ≡ of_entry read day.trips was.before default
  was_read read default t ts was below =
      reads read default t was.before (ap (slice_get (without_trips gone day).trips) (sym was.number) ∙ trip_then was.before below was.stays)

  links_then : AreLinks (without_trips gone day)
  unfolding leaves arrives
  links_then = record {
    arriving_once = once_then gone arriving_in (arriving_then (new_number gone)) (arriving_stay gone) day.links is.linked.arriving_once;
    departing_once = once_then gone departing_in (departing_then (new_number gone)) (departing_stay gone) day.links is.linked.departing_once;
    arriving = λ l t link at here.
        let was : WasLink gone day.links link = was_link gone day.links l link at in
        let trip : WasTrip gone (arriving_in was.before.kind) t = arriver t link was here in
        subst (λ (k : ℕ). k < length (without_trips gone day).trips) trip.number
        (within_then trip.before (is.linked.arriving was.place trip.before was.before was.at trip.among) trip.stays);
    departing = λ l t link at here.
        let was : WasLink gone day.links link = was_link gone day.links l link at in
        let trip : WasTrip gone (departing_in was.before.kind) t = leaver t link was here in
        subst (λ (k : ℕ). k < length (without_trips gone day).trips) trip.number
        (within_then trip.before (is.linked.departing was.place trip.before was.before was.at trip.among) trip.stays);
    in_time = λ l a b link at here there.
        let was : WasLink gone day.links link = was_link gone day.links l link at in
        let first : WasTrip gone (arriving_in was.before.kind) a = arriver a link was here in
        let second : WasTrip gone (departing_in was.before.kind) b = leaver b link was there in
        let arrives_at = was_read (λ trip. trip.arrival) 1 a (arriving_in was.before.kind) first (is.linked.arriving was.place first.before was.before was.at first.among) in
        let leaves_at = was_read (λ trip. trip.departure) 0 b (departing_in was.before.kind) second (is.linked.departing was.place second.before was.before was.at second.among) in
        rw (arrives_at, leaves_at) (is.linked.in_time was.place first.before second.before was.before was.at first.among second.among);
  }

  meet_then : DoMeet (without_trips gone day)
  unfolding from_of to_of
  meet_then = record {
    station = λ l a b link at here there.
        let was : WasLink gone day.links link = was_link gone day.links l link at in
        let first : WasTrip gone (arriving_in was.before.kind) a = arriver a link was here in
        let second : WasTrip gone (departing_in was.before.kind) b = leaver b link was there in
        was_read (λ trip. trip.to) 0 a (arriving_in was.before.kind) first (is.linked.arriving was.place first.before was.before was.at first.among)
        ∙ is.meet.station was.place first.before second.before was.before was.at first.among second.among
        ∙ sym (was_read (λ trip. trip.from) 0 b (departing_in was.before.kind) second (is.linked.departing was.place second.before was.before was.at second.among));
  }

  stock_then : (row : StockRow) (stock : Stock) → IsStockOf day row stock → IsStockOf (without_trips gone day) row stock
  stock_then row stock of_row = record { station = of_row.station; unit_type = of_row.unit_type; start = of_row.start; end = of_row.end }

  trip_of_row_then : (row : TripRow) (trip : Trip) → IsTripOf day row trip → IsTripOf (without_trips gone day) row trip
  trip_of_row_then row trip of_row = record {
    name = of_row.name;
    from = of_row.from;
    departure = of_row.departure;
    to = of_row.to;
    arrival = of_row.arrival;
    km = of_row.km;
    demand = of_row.demand;
    first = of_row.first;
  }

  -- ---- the day

  meant_then : IsDayOf (tables_without gone tables) (without_trips gone day)
  unfolding leaves arrives from_of to_of platform_of units_of greatest_platform is_admissible tables_without
  meant_then = record {
    types = is.types;
    stations = is.stations;
    stock = zip_weaker (IsStockOf day) (IsStockOf (without_trips gone day)) stock_then tables.stock day.stock is.stock;
    trips = zip_weaker (IsTripOf day) (IsTripOf (without_trips gone day)) trip_of_row_then (left_from gone 0 tables.trips) (left_from gone 0 day.trips)
        (left_zip gone (IsTripOf day) tables.trips day.trips 0 is.trips);
    links = links_zip tables.links day.links is.links;
    weights = is.weights;
    type_names = is.type_names;
    station_names = is.station_names;
    trip_names = left_pairs gone (λ a b. a.name ≢ b.name) day.trips 0 is.trip_names;
    stock_rows = is.stock_rows;
    units = is.units;
    compositions = is.compositions;
    elsewhere = λ t below same.
        let (k, within, at) = trip_before t below in
        is.elsewhere k within (sym (reads (λ trip. trip.from) 0 t k at) ∙ same ∙ reads (λ trip. trip.to) 0 t k at);
    later = λ t below.
        let (k, within, at) = trip_before t below in
        rw (reads (λ trip. trip.departure) 0 t k at, reads (λ trip. trip.arrival) 1 t k at) (is.later k within);
    served = λ t below.
        let (k, within, at) = trip_before t below in
        let (types, fits) = is.served k within in (
          types,
          subst (λ (o : Option Trip). fits_in day.types (min (platform_of day (unwrap_or (option_map (λ trip. trip.from) o) 0)) (platform_of day (unwrap_or (option_map (λ trip. trip.to) o) 0))) types ≡ true) (sym at) fits,
        );
    linked = links_then;
    meet = meet_then;
  }

pub tables_make_days_without : TablesMakeDaysWithout
tables_make_days_without tables day gone made = day_is_meant (tables_without gone tables) (without_trips gone day) (meant_then tables day gone (is_day_of tables day made))
