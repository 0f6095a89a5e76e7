-- A day that is the day of the tables in their own words is the one that they make.
use Rattle.std.proofs.Common.{◌≡◌, ◌≢◌, inl, inr, ℕ, ◌+◌, ◌<◌, ◌≤◌, Bool, true, false, List, [], ◌∷◌, ◌++◌, length, refl}
use Rattle.std.proofs.Common.{sym, ap, subst, ◌∙◌, arith, Option, Some, None, Result, Ok, Err, slice_get}
use Rattle.std.specs.Prelude.{◌==◌, ◌&&◌, ◌||◌, min, nat_le, nat_lt, if◌then◌else◌}
use Rattle.std.specs.List.{AllPairs, list_any}
use Rattle.std.proofs.lemmas.Bool.{and_parts, and_from, or_cases, or_from, not_from_true, eqb-true, eq-eqb, ne_eqb}
use Rattle.std.proofs.lemmas.Bool.{leb-true, le-leb, lt-leb, le-ltb, false_from_ne_true}
use Rattle.std.proofs.lemmas.List.Folds.{Any-from_list_any}
use Rattle.std.proofs.lemmas.Option.{slice_get_within}
use Rattle.rail_base.specs.Answers.{◌>>=◌}
use Rattle.rail_base.specs.declared.limits.TheConstants.{MAX_UNITS, MAX_COMPOSITIONS}
use Rattle.compositions.specs.Catalogue.{catalogue_of}
use Rattle.compositions.specs.Composition.{fits_in}
use Rattle.rules.specs.declared.records.UnitType.{UnitType}
use Rattle.rules.specs.declared.records.End.{End}
use Rattle.rules.specs.declared.records.End.TheVariants as at
use Rattle.rail_csv.specs.declared.rows.KindWord.{KindWord}
use Rattle.rail_csv.specs.declared.rows.LinkRow.{LinkRow}
use Rattle.rail_csv.specs.declared.rows.StationRow.{StationRow}
use Rattle.rail_csv.specs.declared.rows.StockRow.{StockRow}
use Rattle.rail_csv.specs.declared.rows.TripRow.{TripRow}
use Rattle.rail_csv.specs.declared.rows.TypeRow.{TypeRow}
use Rattle.rail_csv.specs.declared.rows.WeightsRow.{WeightsRow}
use Rattle.rail_csv.specs.declared.rows.Table.TheVariants as names
use Rattle.rules.specs.declared.records.Link.{Link}
use Rattle.rules.specs.declared.records.LinkKind.{LinkKind}
use Rattle.rules.specs.declared.records.LinkKind.TheVariants.{Turn, Join, Split}
use Rattle.rules.specs.declared.records.Station.{Station}
use Rattle.rules.specs.declared.records.Stock.{Stock}
use Rattle.rules.specs.declared.records.Trip.{Trip}
use Rattle.rules.specs.declared.records.Weights.{Weights}
use Rattle.day_tables.specs.declared.building.refusal.InstanceRefusal.{InstanceRefusal}
use Rattle.day_tables.specs.declared.building.refusal.InstanceRefusal.TheVariants.{RepeatedName, UnknownName}
use Rattle.day_tables.specs.declared.building.refusal.InstanceRefusal.TheVariants.{RepeatedStock, TooManyCompositions}
use Rattle.day_tables.specs.declared.building.refusal.InstanceRefusal.TheVariants.{ArrivalNotAfterDeparture, SameStation}
use Rattle.day_tables.specs.declared.building.refusal.InstanceRefusal.TheVariants.{NoComposition, TripUsedTwice}
use Rattle.day_tables.specs.declared.building.refusal.InstanceRefusal.TheVariants.{WrongStation, TooEarly}
use Rattle.day_tables.specs.declared.building.refusal.InstanceRefusal.TheVariants.{WrongLinkFields}
use Rattle.day_tables.specs.declared.building.tables.Tables.{Tables}
use Rattle.day_tables.specs.Accepted.{times_named}
use Rattle.day_tables.specs.Admissible.{is_admissible}
use Rattle.day_tables.specs.Build.{type_in, station_in, weights_in, trip_between, has_stock, new_stock, has_fitting}
use Rattle.day_tables.specs.Build.{platform_at, starts_of, accept_type, accept_station, accept_stock, accept_run}
use Rattle.day_tables.specs.Build.{accept_trip, types_in, stations_in, stock_in, trips_in, catalogue_in, day_of}
use Rattle.day_tables.specs.Compositions.{greatest_in, greatest_platform}
use Rattle.day_tables.specs.Day.{Day, leaves, arrives, from_of, to_of, platform_of, units_of}
use Rattle.day_tables.specs.LinkRows.{trip_named, is_an_end, lacks_an_end, does_shunt, turn_in, join_in, split_in}
use Rattle.day_tables.specs.LinkRows.{kind_of, is_arriving, is_departing, names_again, do_meet, is_in_time, each_pair}
use Rattle.day_tables.specs.LinkRows.{accept_trips, accept_link, links_in}
use Rattle.day_tables.specs.Links.{arriving_in, departing_in}
use Rattle.day_tables.specs.Lists.{count_of, has}
use Rattle.day_tables.specs.Meaning.{IsTypeOf, IsStationOf, AreWeightsOf, IsStockOf, IsTripOf, IsTurnOf}
use Rattle.day_tables.specs.NamedEntries.{IsNumberOf}
use Rattle.day_tables.specs.Meaning.{IsJoinOf, IsSplitOf, IsKindOf, IsLinkOf, IsOtherStock, IsDayOf}
use Rattle.day_tables.specs.NamedEntries.{AreNamedApart, has_name, find_name, found_or}
use Rattle.day_tables.specs.Rowwise.{row_after}
use Rattle.day_tables.proofs.Days.{entry_is, length-units_in}
use Rattle.day_tables.proofs.Entries.{Passes}
use Rattle.day_tables.proofs.Fitting.{admits_fitting}
use Rattle.day_tables.proofs.LinkKinds.{two_apart}
use Rattle.day_tables.proofs.LinkNames.{has_itself, has_first, has_second}
use Rattle.day_tables.proofs.Passing.{ok_same, then_ok, unless_ok, when_ok, number_given, stands_at, each_before}
use Rattle.day_tables.proofs.Passing.{name_is_new, all_accepted}
use Rattle.day_tables.proofs.RowNames.{number_is_found}

-- ---- types and stations

type_is : (row : TypeRow) (t : UnitType) → IsTypeOf row t → t ≡ type_in row
type_is row t is = λ i. record { name = is.name i; carriages = is.carriages i; seats = is.seats i; metres = is.metres i; family = is.family i; first = is.first i }

types_made : (tables : Tables) (day : Day) → IsDayOf tables day → types_in tables.types ≡ Ok day.types
unfolding types_in accept_type
types_made tables day is = all_accepted accept_type IsTypeOf day.types
    (λ front row t rest split of_row. unless_ok (has_name (λ t. t.name) front row.name) (RepeatedName names.Types (row_after front)) (Ok (type_in row)) t
    (name_is_new (λ t. t.name) day.types front t rest row.name is.type_names split of_row.name) (ok_same (type_in row) t (sym (type_is row t of_row))))
    [] tables.types day.types refl is.types

station_is : (row : StationRow) (s : Station) → IsStationOf row s → s ≡ station_in row
station_is row s is = λ i. record { name = is.name i; platform = is.platform i; reallocation = is.reallocation i }

stations_made : (tables : Tables) (day : Day) → IsDayOf tables day → stations_in tables.stations ≡ Ok day.stations
unfolding stations_in accept_station
stations_made tables day is = all_accepted accept_station IsStationOf day.stations
    (λ front row s rest split of_row. unless_ok (has_name (λ s. s.name) front row.name) (RepeatedName names.Stations (row_after front)) (Ok (station_in row)) s
    (name_is_new (λ s. s.name) day.stations front s rest row.name is.station_names split of_row.name) (ok_same (station_in row) s (sym (station_is row s of_row))))
    [] tables.stations day.stations refl is.stations

-- ---- stock

-- no row before is of the same station and type
pair_is_new : (all front : List Stock) (x : Stock) (rest : List Stock) → AllPairs IsOtherStock all → front ++ x ∷ rest ≡ all → has_stock front x.station x.unit_type ≡ false
pair_is_new all front x rest apart split = false_from_ne_true (has_stock front x.station x.unit_type) (λ some.
    let (k, y, below, at, same) = Any-from_list_any (λ row. (row.station == x.station) && (row.unit_type == x.unit_type)) front some in
    let (of_station, of_type) = and_parts (y.station == x.station) (y.unit_type == x.unit_type) same in
    each_before IsOtherStock all front x rest apart split k y below (
      ap (λ (s : Stock). s.station) at ∙ eqb-true y.station x.station of_station,
      ap (λ (s : Stock). s.unit_type) at ∙ eqb-true y.unit_type x.unit_type of_type,
    ))

stock_accepted : (day : Day) (front : List Stock) (row : StockRow) (stock : Stock) → AreNamedApart (λ s. s.name) day.stations → AreNamedApart (λ t. t.name) day.types → IsStockOf day row stock
    → has_stock front stock.station stock.unit_type ≡ false → accept_stock day.stations day.types front row ≡ Ok stock
unfolding accept_stock
stock_accepted day front row stock stations_apart types_apart is new =
    let at : Option ℕ = find_name (λ s. s.name) day.stations row.station in
    let of : Option ℕ = find_name (λ t. t.name) day.types row.unit_type in
    let made : Stock = record { station = stock.station; unit_type = stock.unit_type; start = row.start; end = row.end } in
    let same : stock ≡ made = λ i. record { station = stock.station; unit_type = stock.unit_type; start = is.start i; end = is.end i } in
    then_ok (found_or at (UnknownName names.Stock (row_after front) 0)) (λ s. found_or of (UnknownName names.Stock (row_after front) 1) >>= (λ m. new_stock front row s m)) stock.station stock
    (number_given at (UnknownName names.Stock (row_after front) 0) stock.station (number_is_found (λ s. s.name) day.stations row.station stock.station stations_apart is.station))
    (then_ok (found_or of (UnknownName names.Stock (row_after front) 1)) (λ m. new_stock front row stock.station m) stock.unit_type stock
    (number_given of (UnknownName names.Stock (row_after front) 1) stock.unit_type (number_is_found (λ t. t.name) day.types row.unit_type stock.unit_type types_apart is.unit_type))
    (unless_ok (has_stock front stock.station stock.unit_type) (RepeatedStock (row_after front)) (Ok made) stock new (ok_same made stock (sym same))))

stock_made : (tables : Tables) (day : Day) → IsDayOf tables day → stock_in day.stations day.types tables.stock ≡ Ok day.stock
unfolding stock_in
stock_made tables day is = all_accepted (accept_stock day.stations day.types) (IsStockOf day) day.stock
    (λ front row stock rest split of_row. stock_accepted day front row stock is.station_names is.type_names of_row (pair_is_new day.stock front stock rest is.stock_rows split))
    [] tables.stock day.stock refl is.stock

few_units : (tables : Tables) (day : Day) → IsDayOf tables day → nat_lt MAX_UNITS (starts_of day.stock) ≡ false
unfolding units_of
few_units tables day is = le-ltb MAX_UNITS (starts_of day.stock) (omega (arith, is.units, length-units_in day.stock))

few_compositions : (tables : Tables) (day : Day) → IsDayOf tables day → catalogue_in day.types day.stations ≡ Ok (catalogue_of day.types (greatest_in day.stations))
unfolding catalogue_in greatest_platform
few_compositions tables day is =
    let all : List (List ℕ) = catalogue_of day.types (greatest_in day.stations) in
    unless_ok (nat_lt MAX_COMPOSITIONS (length all)) TooManyCompositions (Ok all) all (le-ltb MAX_COMPOSITIONS (length all) is.compositions) refl

-- ---- trips

run_accepted : (stations : List Station) (types : List UnitType) (number : ℕ) (trip : Trip) → Passes stations types trip → accept_run stations types number trip ≡ Ok trip
unfolding accept_run
run_accepted stations types number trip passes =
    let fits : Bool = has_fitting types (min (platform_at stations trip.from) (platform_at stations trip.to)) in
    let served : Result Trip InstanceRefusal = if fits then Ok trip else Err (NoComposition number) in
    unless_ok (trip.from == trip.to) (SameStation number) (if nat_le trip.arrival trip.departure then Err (ArrivalNotAfterDeparture number) else served) trip passes.differ
    (unless_ok (nat_le trip.arrival trip.departure) (ArrivalNotAfterDeparture number) served trip (lt-leb trip.arrival trip.departure passes.time)
    (when_ok fits (NoComposition number) (Ok trip) trip passes.fits refl))

trip_accepted : (day : Day) (front : List Trip) (row : TripRow) (trip : Trip) → AreNamedApart (λ s. s.name) day.stations → IsTripOf day row trip → has_name (λ t. t.name) front row.name ≡ false
    → Passes day.stations day.types trip → accept_trip day.stations day.types front row ≡ Ok trip
unfolding accept_trip
trip_accepted day front row trip apart is new passes =
    let from : Option ℕ = find_name (λ s. s.name) day.stations row.from in
    let to : Option ℕ = find_name (λ s. s.name) day.stations row.to in
    let number : ℕ = row_after front in
    let run : ℕ → ℕ → Result Trip InstanceRefusal = λ a b. accept_run day.stations day.types number (trip_between row a b) in
    let same : trip ≡ trip_between row trip.from trip.to =
    λ i. record { name = is.name i; from = trip.from; departure = is.departure i; to = trip.to; arrival = is.arrival i; km = is.km i; demand = is.demand i; first = is.first i } in
    unless_ok (has_name (λ t. t.name) front row.name) (RepeatedName names.Trips number) (found_or from (UnknownName names.Trips number 1) >>= (λ a. found_or to (UnknownName names.Trips number 3) >>= (λ b. run a b))) trip new
    (then_ok (found_or from (UnknownName names.Trips number 1)) (λ a. found_or to (UnknownName names.Trips number 3) >>= (λ b. run a b)) trip.from trip
    (number_given from (UnknownName names.Trips number 1) trip.from (number_is_found (λ s. s.name) day.stations row.from trip.from apart is.from))
    (then_ok (found_or to (UnknownName names.Trips number 3)) (λ b. run trip.from b) trip.to trip
    (number_given to (UnknownName names.Trips number 3) trip.to (number_is_found (λ s. s.name) day.stations row.to trip.to apart is.to))
    (subst (λ (t : Trip). accept_run day.stations day.types number t ≡ Ok trip) same (run_accepted day.stations day.types number trip passes))))

trip_passes : (tables : Tables) (day : Day) → IsDayOf tables day → (front : List Trip) (trip : Trip) (rest : List Trip) → front ++ trip ∷ rest ≡ day.trips → Passes day.stations day.types trip
unfolding is_admissible platform_of leaves arrives from_of to_of
trip_passes tables day is front trip rest split =
    let t : ℕ = length front in
    let at : slice_get day.trips t ≡ Some trip = stands_at day.trips front trip rest split in
    let below : t < length day.trips = slice_get_within day.trips t trip at in
    let longest : ℕ → ℕ → ℕ = λ a b. min (platform_at day.stations a) (platform_at day.stations b) in
    let from : from_of day t ≡ trip.from = entry_is (λ trip. trip.from) day.trips t 0 trip at in
    let to : to_of day t ≡ trip.to = entry_is (λ trip. trip.to) day.trips t 0 trip at in
    let departs : leaves day t ≡ trip.departure = entry_is (λ trip. trip.departure) day.trips t 0 trip at in
    let arrived : arrives day t ≡ trip.arrival = entry_is (λ trip. trip.arrival) day.trips t 1 trip at in
    let (ms, fits) = is.served t below in
    let same : longest (from_of day t) (to_of day t) ≡ longest trip.from trip.to = ap (λ (a : ℕ). longest a (to_of day t)) from ∙ ap (λ (b : ℕ). longest trip.from b) to in
    record {
      differ = ne_eqb trip.from trip.to (λ one. is.elsewhere t below (from ∙ one ∙ sym to));
      time = subst (λ (n : ℕ). n < trip.arrival) departs (subst (λ (n : ℕ). leaves day t < n) arrived (is.later t below));
      fits = admits_fitting day.types (longest trip.from trip.to) ms (subst (λ (n : ℕ). fits_in day.types n ms ≡ true) same fits);
    }

trips_made : (tables : Tables) (day : Day) → IsDayOf tables day → trips_in day.stations day.types tables.trips ≡ Ok day.trips
unfolding trips_in
trips_made tables day is = all_accepted (accept_trip day.stations day.types) (IsTripOf day) day.trips
    (λ front row trip rest split of_row. trip_accepted day front row trip is.station_names of_row
    (name_is_new (λ t. t.name) day.trips front trip rest row.name is.trip_names split of_row.name) (trip_passes tables day is front trip rest split))
    [] tables.trips day.trips refl is.trips

-- ---- the kind of a link

an_end : (e : End) → e ≢ at.None → is_an_end e ≡ true
an_end at.None some = absurd (some refl)
an_end at.Front some = refl
an_end at.Rear some = refl

lacks_none : (uncouple couple : End) (exchange : Bool) → (exchange ≡ true → (uncouple ≢ at.None) × (couple ≢ at.None)) → lacks_an_end uncouple couple exchange ≡ false
lacks_none uncouple couple false ends = refl
lacks_none uncouple couple true ends = not_from_true (is_an_end uncouple && is_an_end couple) (and_from (is_an_end uncouple) (is_an_end couple) (an_end uncouple (ends refl).0) (an_end couple (ends refl).1))

shunts_none : (uncouple couple : End) (exchange : Bool) → uncouple ≡ at.None → couple ≡ at.None → exchange ≡ false → does_shunt uncouple couple exchange ≡ false
shunts_none uncouple couple exchange off on no_exchange = or_from (is_an_end uncouple || is_an_end couple) exchange (or_from (is_an_end uncouple) (is_an_end couple) (ap is_an_end off) (ap is_an_end on)) no_exchange

module _ (trips : List Trip) (apart : AreNamedApart (λ t. t.name) trips) (number : ℕ) (row : LinkRow) where
  named : (column : ℕ) (name : List ℕ) (t : ℕ) → IsNumberOf (λ t. t.name) trips name t → trip_named trips number column name ≡ Ok t
  named column name t is = number_given (find_name (λ t. t.name) trips name) (UnknownName names.Links number column) t (number_is_found (λ t. t.name) trips name t apart is)

  turn_given : (a b : ℕ) (uncouple couple : End) (exchange : Bool) → IsTurnOf (IsNumberOf (λ t. t.name) trips) row a b uncouple couple exchange → kind_of row.kind trips number row ≡ Ok (Turn a b uncouple couple exchange)
  unfolding turn_in
  turn_given a b uncouple couple exchange is =
      let kind : LinkKind = Turn a b uncouple couple exchange in
      let off = is.uncoupling in
      let on = is.coupling in
      let both = is.exchanging in
      let same : kind ≡ Turn a b row.uncouple row.couple row.exchange = λ i. Turn a b (off i) (on i) (both i) in
      let last : ℕ → Result LinkKind InstanceRefusal = λ a. trip_named trips number 3 row.departing >>= (λ b. Ok (Turn a b row.uncouple row.couple row.exchange)) in
      ap (λ (word : KindWord). kind_of word trips number row) is.kind
      ∙ ap (λ (second : Option (List ℕ)). turn_in trips number row second row.departing2) is.no_arriving2
      ∙ ap (λ (second : Option (List ℕ)). turn_in trips number row None second) is.no_departing2
      ∙ unless_ok (lacks_an_end row.uncouple row.couple row.exchange) (WrongLinkFields number) (trip_named trips number 1 row.arriving >>= (λ a. last a)) kind (lacks_none row.uncouple row.couple row.exchange is.two_ends)
      (then_ok (trip_named trips number 1 row.arriving) (λ a. last a) a kind (named 1 row.arriving a is.arriving)
      (then_ok (trip_named trips number 3 row.departing) (λ b. Ok (Turn a b row.uncouple row.couple row.exchange)) b kind (named 3 row.departing b is.departing) (ok_same (Turn a b row.uncouple row.couple row.exchange) kind (sym same))))

  join_given : (a1 a2 b : ℕ) → IsJoinOf (IsNumberOf (λ t. t.name) trips) row a1 a2 b → kind_of row.kind trips number row ≡ Ok (Join a1 a2 b)
  unfolding join_in
  join_given a1 a2 b is =
      let kind : LinkKind = Join a1 a2 b in
      let last : ℕ → ℕ → Result LinkKind InstanceRefusal = λ a1 a2. trip_named trips number 3 row.departing >>= (λ b. Ok (Join a1 a2 b)) in
      ap (λ (word : KindWord). kind_of word trips number row) is.kind
      ∙ ap (λ (second : Option (List ℕ)). join_in trips number row second row.departing2) is.named
      ∙ ap (λ (second : Option (List ℕ)). join_in trips number row (Some is.name) second) is.no_departing2
      ∙ unless_ok (does_shunt row.uncouple row.couple row.exchange) (WrongLinkFields number) (trip_named trips number 1 row.arriving >>= (λ a1. trip_named trips number 2 is.name >>= (λ a2. last a1 a2))) kind
      (shunts_none row.uncouple row.couple row.exchange is.no_uncoupling is.no_coupling is.no_exchange)
      (then_ok (trip_named trips number 1 row.arriving) (λ a1. trip_named trips number 2 is.name >>= (λ a2. last a1 a2)) a1 kind (named 1 row.arriving a1 is.arriving)
      (then_ok (trip_named trips number 2 is.name) (λ a2. last a1 a2) a2 kind (named 2 is.name a2 is.arriving2)
      (then_ok (trip_named trips number 3 row.departing) (λ b. Ok (Join a1 a2 b)) b kind (named 3 row.departing b is.departing) refl)))

  split_given : (a b1 b2 : ℕ) → IsSplitOf (IsNumberOf (λ t. t.name) trips) row a b1 b2 → kind_of row.kind trips number row ≡ Ok (Split a b1 b2)
  unfolding split_in
  split_given a b1 b2 is =
      let kind : LinkKind = Split a b1 b2 in
      let last : ℕ → ℕ → Result LinkKind InstanceRefusal = λ a b1. trip_named trips number 4 is.name >>= (λ b2. Ok (Split a b1 b2)) in
      ap (λ (word : KindWord). kind_of word trips number row) is.kind
      ∙ ap (λ (second : Option (List ℕ)). split_in trips number row second row.departing2) is.no_arriving2
      ∙ ap (λ (second : Option (List ℕ)). split_in trips number row None second) is.named
      ∙ unless_ok (does_shunt row.uncouple row.couple row.exchange) (WrongLinkFields number) (trip_named trips number 1 row.arriving >>= (λ a. trip_named trips number 3 row.departing >>= (λ b1. last a b1))) kind
      (shunts_none row.uncouple row.couple row.exchange is.no_uncoupling is.no_coupling is.no_exchange)
      (then_ok (trip_named trips number 1 row.arriving) (λ a. trip_named trips number 3 row.departing >>= (λ b1. last a b1)) a kind (named 1 row.arriving a is.arriving)
      (then_ok (trip_named trips number 3 row.departing) (λ b1. last a b1) b1 kind (named 3 row.departing b1 is.departing)
      (then_ok (trip_named trips number 4 is.name) (λ b2. Ok (Split a b1 b2)) b2 kind (named 4 is.name b2 is.departing2) refl)))

  kind_given : (kind : LinkKind) → IsKindOf (IsNumberOf (λ t. t.name) trips) row kind → kind_of row.kind trips number row ≡ Ok kind
  kind_given (Turn a b uncouple couple exchange) is = turn_given a b uncouple couple exchange is
  kind_given (Join a1 a2 b) is = join_given a1 a2 b is
  kind_given (Split a b1 b2) is = split_given a b1 b2 is

-- ---- the trips of a link

times_of_both : (side : LinkKind → List ℕ) (front rest : List Link) (t : ℕ) → times_named side (front ++ rest) t ≡ times_named side front t + times_named side rest t
times_of_both side [] rest t = omega arith
times_of_both side (link ∷ front) rest t = omega (arith, times_of_both side front rest t)

named_once : (side : LinkKind → List ℕ) (links : List Link) (t : ℕ) → list_any (λ link. has t (side link.kind)) links ≡ true → 1 ≤ times_named side links t
named_once side [] t some = absurd cc
named_once side (link ∷ links) t some = elim (or_cases (has t (side link.kind)) (list_any (λ link. has t (side link.kind)) links) some) [
  | inl here ↦ let counted : 1 ≤ count_of t (side link.kind) = leb-true 1 (count_of t (side link.kind)) here in omega arith
  | inr later ↦ let counted : 1 ≤ times_named side links t = named_once side links t later in omega arith
]

-- where links name a trip once at most on a side
module _ (side : LinkKind → List ℕ) (all front : List Link) (link : Link) (rest : List Link) (split : front ++ link ∷ rest ≡ all) (once : (t : ℕ) → times_named side all t ≤ 1) where
  times_in_parts : (t : ℕ) → times_named side front t + count_of t (side link.kind) ≤ 1
  times_in_parts t =
      let whole : times_named side (front ++ link ∷ rest) t ≤ 1 = subst (λ (links : List Link). times_named side links t ≤ 1) (sym split) (once t) in
      omega (arith, whole, times_of_both side front (link ∷ rest) t)

  -- a trip of a link is named by none before it
  trip_is_new : (t : ℕ) → has t (side link.kind) ≡ true → list_any (λ link. has t (side link.kind)) front ≡ false
  trip_is_new t here = false_from_ne_true (list_any (λ link. has t (side link.kind)) front) (λ some.
      let counted : 1 ≤ count_of t (side link.kind) = leb-true 1 (count_of t (side link.kind)) here in
      absurd (omega (arith, counted, named_once side front t some, times_in_parts t)))

  counted_once : (t : ℕ) → count_of t (side link.kind) ≤ 1
  counted_once t = omega (arith, times_in_parts t)

names_none_again : (front : List Link) (kind : LinkKind) → ((t : ℕ) → has t (arriving_in kind) ≡ true → is_arriving front t ≡ false) → ((t : ℕ) → has t (departing_in kind) ≡ true → is_departing front t ≡ false)
    → ((t : ℕ) → count_of t (arriving_in kind) ≤ 1) → ((t : ℕ) → count_of t (departing_in kind) ≤ 1) → names_again front kind ≡ false
names_none_again front (Turn a b uncouple couple exchange) arrive depart once_in once_out = or_from (is_arriving front a) (is_departing front b) (arrive a (has_itself a)) (depart b (has_itself b))
names_none_again front (Join a1 a2 b) arrive depart once_in once_out =
    or_from (a1 == a2 || is_arriving front a1 || is_arriving front a2) (is_departing front b)
    (or_from (a1 == a2 || is_arriving front a1) (is_arriving front a2)
    (or_from (a1 == a2) (is_arriving front a1) (ne_eqb a1 a2 (two_apart a1 a2 (once_in a1))) (arrive a1 (has_first a1 a2)))
    (arrive a2 (has_second a1 a2)))
    (depart b (has_itself b))
names_none_again front (Split a b1 b2) arrive depart once_in once_out =
    or_from (b1 == b2 || is_arriving front a || is_departing front b1) (is_departing front b2)
    (or_from (b1 == b2 || is_arriving front a) (is_departing front b1)
    (or_from (b1 == b2) (is_arriving front a) (ne_eqb b1 b2 (two_apart b1 b2 (once_out b1))) (arrive a (has_itself a)))
    (depart b1 (has_first b1 b2)))
    (depart b2 (has_second b1 b2))

every_pair : (test : ℕ → ℕ → Bool) (kind : LinkKind) → ((a b : ℕ) → has a (arriving_in kind) ≡ true → has b (departing_in kind) ≡ true → test a b ≡ true) → each_pair test kind ≡ true
every_pair test (Turn a b uncouple couple exchange) every = every a b (has_itself a) (has_itself b)
every_pair test (Join a1 a2 b) every = and_from (test a1 b) (test a2 b) (every a1 b (has_first a1 a2) (has_itself b)) (every a2 b (has_second a1 a2) (has_itself b))
every_pair test (Split a b1 b2) every = and_from (test a b1) (test a b2) (every a b1 (has_itself a) (has_first b1 b2)) (every a b2 (has_itself a) (has_second b1 b2))

-- ---- links

link_accepted : (trips : List Trip) (front : List Link) (row : LinkRow) (link : Link) (number : ℕ) → link.reverse ≡ row.reverse → names_again front link.kind ≡ false → each_pair (do_meet trips) link.kind ≡ true
    → each_pair (is_in_time trips) link.kind ≡ true → accept_trips trips front number (record { kind = link.kind; reverse = row.reverse }) ≡ Ok link
unfolding accept_trips
link_accepted trips front row link number reverse new meet in_time =
    let made : Link = record { kind = link.kind; reverse = row.reverse } in
    let same : link ≡ made = λ i. record { kind = link.kind; reverse = reverse i } in
    let timed : Result Link InstanceRefusal = if each_pair (is_in_time trips) link.kind then Ok made else Err (TooEarly number) in
    unless_ok (names_again front link.kind) (TripUsedTwice number) (if each_pair (do_meet trips) link.kind then timed else Err (WrongStation number)) link new
    (when_ok (each_pair (do_meet trips) link.kind) (WrongStation number) timed link meet
    (when_ok (each_pair (is_in_time trips) link.kind) (TooEarly number) (Ok made) link in_time (ok_same made link (sym same))))

links_made : (tables : Tables) (day : Day) → IsDayOf tables day → links_in day.trips tables.links ≡ Ok day.links
unfolding links_in accept_link leaves arrives from_of to_of
links_made tables day is = all_accepted (accept_link day.trips) (IsLinkOf day) day.links
    (λ front row link rest split of_row.
    let number : ℕ = row_after front in
    let l : ℕ = length front in
    let at : slice_get day.links l ≡ Some link = stands_at day.links front link rest split in
    then_ok (kind_of row.kind day.trips number row) (λ kind. accept_trips day.trips front number (record { kind = kind; reverse = row.reverse })) link.kind link
    (kind_given day.trips is.trip_names number row link.kind of_row.kind)
    (link_accepted day.trips front row link number of_row.reverse
    (names_none_again front link.kind
    (trip_is_new arriving_in day.links front link rest split is.linked.arriving_once) (trip_is_new departing_in day.links front link rest split is.linked.departing_once)
    (counted_once arriving_in day.links front link rest split is.linked.arriving_once) (counted_once departing_in day.links front link rest split is.linked.departing_once))
    (every_pair (do_meet day.trips) link.kind (λ a b here there. eq-eqb (to_of day a) (from_of day b) (is.meet.station l a b link at here there)))
    (every_pair (is_in_time day.trips) link.kind (λ a b here there. le-leb (arrives day a) (leaves day b) (is.linked.in_time l a b link at here there)))))
    [] tables.links day.links refl is.links

-- ---- the day

weights_are : (row : WeightsRow) (weights : Weights) → AreWeightsOf row weights → weights ≡ weights_in row
weights_are row weights is = λ i. record { carriage = is.carriage i; shortage = is.shortage i; shunting = is.shunting i }

pub day_is_meant : (tables : Tables) (day : Day) → IsDayOf tables day → day_of tables ≡ Ok day
unfolding day_of
day_is_meant tables day is =
    let made : Day = record { types = day.types; stations = day.stations; stock = day.stock; trips = day.trips; links = day.links; weights = weights_in tables.weights } in
    let weights = weights_are tables.weights day.weights is.weights in
    let same : day ≡ made = λ i. record { types = day.types; stations = day.stations; stock = day.stock; trips = day.trips; links = day.links; weights = weights i } in
    rw (types_made tables day is, stations_made tables day is, stock_made tables day is, few_units tables day is, few_compositions tables day is, trips_made tables day is, links_made tables day is)
    (ok_same made day (sym same))
