-- The tests that tables undergo, in their order. A refusal is that of the first that fails.
use Rattle.std.specs.Prelude.{ℕ, ◌≡◌, ◌≢◌, ◌+◌, ◌≤◌, ◌<◌, ◌⊎◌, List, [], ◌∷◌, ◌++◌, length, map, min, Bool, true, false}
use Rattle.std.specs.Prelude.{Option, Some, None, slice_get}
use Rattle.std.specs.List.{All, Any}
use Rattle.rail_base.specs.declared.limits.TheConstants.{MAX_UNITS, MAX_COMPOSITIONS}
use Rattle.compositions.specs.Catalogue.{catalogue_of}
use Rattle.compositions.specs.Composition.{fits_in}
use Rattle.rules.specs.declared.records.End.{End}
use Rattle.rules.specs.declared.records.End.TheVariants as at
use Rattle.rail_csv.specs.declared.rows.KindWord.{KindWord}
use Rattle.rail_csv.specs.declared.rows.KindWord.TheVariants as words
use Rattle.rail_csv.specs.declared.rows.LinkRow.{LinkRow}
use Rattle.rail_csv.specs.declared.rows.StationRow.{StationRow}
use Rattle.rail_csv.specs.declared.rows.StockRow.{StockRow}
use Rattle.rail_csv.specs.declared.rows.TripRow.{TripRow}
use Rattle.rail_csv.specs.declared.rows.TypeRow.{TypeRow}
use Rattle.rail_csv.specs.declared.rows.Table.TheVariants as names
use Rattle.day_tables.specs.declared.building.refusal.InstanceRefusal.{InstanceRefusal}
use Rattle.day_tables.specs.declared.building.refusal.InstanceRefusal.TheVariants.{RepeatedName, UnknownName}
use Rattle.day_tables.specs.declared.building.refusal.InstanceRefusal.TheVariants.{SameStation, RepeatedStock}
use Rattle.day_tables.specs.declared.building.refusal.InstanceRefusal.TheVariants.{ArrivalNotAfterDeparture, TooEarly}
use Rattle.day_tables.specs.declared.building.refusal.InstanceRefusal.TheVariants.{TripUsedTwice, WrongStation}
use Rattle.day_tables.specs.declared.building.refusal.InstanceRefusal.TheVariants.{WrongLinkFields, NoComposition}
use Rattle.day_tables.specs.declared.building.refusal.InstanceRefusal.TheVariants.{TooManyUnits, TooManyCompositions}
use Rattle.day_tables.specs.declared.building.tables.Tables.{Tables}
use Rattle.day_tables.specs.Build.{type_in, station_in}
use Rattle.day_tables.specs.Compositions.{greatest_in}
use Rattle.day_tables.specs.Tests.{Test, ◌when◌, row_tests}

-- one of these rows has the name, or none
abbrev pub HasName : {X : Type 0} → (X → List ℕ) → List X → List ℕ → Type 0
HasName name_of rows name = Any (λ row. name_of row ≡ name) rows

abbrev pub HasNoName : {X : Type 0} → (X → List ℕ) → List X → List ℕ → Type 0
HasNoName name_of rows name = All (λ row. name_of row ≢ name) rows

-- ---- types and stations

abbrev pub type_tests : ℕ → List TypeRow → TypeRow → List (Test InstanceRefusal)
type_tests number before row = RepeatedName names.Types number when HasName (λ row. row.name) before row.name ∷ []

abbrev pub station_tests : ℕ → List StationRow → StationRow → List (Test InstanceRefusal)
station_tests number before row = RepeatedName names.Stations number when HasName (λ row. row.name) before row.name ∷ []

-- no station, no type has the name
abbrev pub IsNoStation : Tables → List ℕ → Type 0
IsNoStation tables name = HasNoName (λ row. row.name) tables.stations name

abbrev pub IsNoType : Tables → List ℕ → Type 0
IsNoType tables name = HasNoName (λ row. row.name) tables.types name

-- ---- stock

-- columns 0 and 1 name the station and the type, and no row before names both
abbrev pub stock_tests : Tables → ℕ → List StockRow → StockRow → List (Test InstanceRefusal)
stock_tests tables number before row =
    UnknownName names.Stock number 0 when IsNoStation tables row.station
    ∷ UnknownName names.Stock number 1 when IsNoType tables row.unit_type
    ∷ RepeatedStock number
    when Any (λ earlier. (earlier.station ≡ row.station) × (earlier.unit_type ≡ row.unit_type)) before
    ∷ []

-- the units at the start of the day
abbrev pub starts_in : List StockRow → ℕ
starts_in [] = 0
starts_in (row ∷ rows) = row.start + starts_in rows

-- the compositions that fit the greatest platform
abbrev pub compositions_in : Tables → List (List ℕ)
compositions_in tables = catalogue_of (map type_in tables.types) (greatest_in (map station_in tables.stations))

abbrev pub count_tests : Tables → List (Test InstanceRefusal)
count_tests tables =
    TooManyUnits when (MAX_UNITS < starts_in tables.stock)
    ∷ TooManyCompositions when (MAX_COMPOSITIONS < length (compositions_in tables))
    ∷ []

-- ---- trips

-- two stations have these names, and no composition fits the shorter of their platforms
pub record IsUnserved (tables : Tables) (from to : List ℕ) : Type 0 where
  pub origin : ℕ
  pub goal : ℕ
  pub here : StationRow
  pub there : StationRow
  pub at_origin : slice_get tables.stations origin ≡ Some here
  pub at_goal : slice_get tables.stations goal ≡ Some there
  pub named_origin : here.name ≡ from
  pub named_goal : there.name ≡ to
  pub unfit : (types : List ℕ) → fits_in (map type_in tables.types) (min here.platform there.platform) types ≡ false

-- columns 1 and 3 name the stations
abbrev pub trip_tests : Tables → ℕ → List TripRow → TripRow → List (Test InstanceRefusal)
trip_tests tables number before row =
    RepeatedName names.Trips number when HasName (λ row. row.name) before row.name
    ∷ UnknownName names.Trips number 1 when IsNoStation tables row.from
    ∷ UnknownName names.Trips number 3 when IsNoStation tables row.to
    ∷ SameStation number when (row.from ≡ row.to)
    ∷ ArrivalNotAfterDeparture number when (row.arrival ≤ row.departure)
    ∷ NoComposition number when IsUnserved tables row.from row.to
    ∷ []

-- ---- links

-- the fields of a link row fit its kind: a turn has no second names, and two ends where units are exchanged; a join has
-- a second arriving name alone, a split a second departing name alone, and both have no ends and no exchange
abbrev pub FitsKind : KindWord → Option (List ℕ) → Option (List ℕ) → End → End → Bool → Type 0
FitsKind words.Turn None None uncouple couple false = Unit {0}
FitsKind words.Turn None None uncouple couple true = (uncouple ≢ at.None) × (couple ≢ at.None)
FitsKind words.Join (Some name) None at.None at.None false = Unit {0}
FitsKind words.Split None (Some name) at.None at.None false = Unit {0}
FitsKind _ _ _ _ _ _ = ⊥

-- no trip has the name, where there is a name
abbrev pub IsNoTrip : Tables → Option (List ℕ) → Type 0
IsNoTrip tables None = ⊥
IsNoTrip tables (Some name) = HasNoName (λ row. row.name) tables.trips name

-- the row names a trip as arriving, or as departing
abbrev pub NamesArriving : LinkRow → List ℕ → Type 0
NamesArriving row name = (row.arriving ≡ name) ⊎ (row.arriving2 ≡ Some name)

abbrev pub NamesDeparting : LinkRow → List ℕ → Type 0
NamesDeparting row name = (row.departing ≡ name) ⊎ (row.departing2 ≡ Some name)

-- the row and a row before it name one trip so
abbrev pub NamedBefore : (LinkRow → List ℕ → Type 0) → List LinkRow → LinkRow → Type 0
NamedBefore names before row = (name : List ℕ) × names row name × Any (λ earlier. names earlier name) before

-- a trip is named twice as arriving, or twice as departing
abbrev pub UsesTwice : List LinkRow → LinkRow → Type 0
UsesTwice before row =
    (row.arriving2 ≡ Some row.arriving) ⊎ (row.departing2 ≡ Some row.departing) ⊎ NamedBefore NamesArriving before row
    ⊎ NamedBefore NamesDeparting before row

-- an arriving and a departing trip of the row, of which something is so
abbrev pub HasTripsThat : (TripRow → TripRow → Type 0) → Tables → LinkRow → Type 0
HasTripsThat P tables row =
    (i j : ℕ) × (a b : TripRow) × (slice_get tables.trips i ≡ Some a) × (slice_get tables.trips j ≡ Some b)
    × NamesArriving row a.name × NamesDeparting row b.name × P a b

-- columns 1 to 4 name the trips: 1 and 2 those that arrive, 3 and 4 those that depart
abbrev pub kind_tests : Tables → ℕ → LinkRow → List (Test InstanceRefusal)
kind_tests tables number row =
    WrongLinkFields number when (¬ FitsKind row.kind row.arriving2 row.departing2 row.uncouple row.couple row.exchange)
    ∷ UnknownName names.Links number 1 when IsNoTrip tables (Some row.arriving)
    ∷ UnknownName names.Links number 2 when IsNoTrip tables row.arriving2
    ∷ UnknownName names.Links number 3 when IsNoTrip tables (Some row.departing)
    ∷ UnknownName names.Links number 4 when IsNoTrip tables row.departing2
    ∷ []

-- the trips are new on their sides, meet at one station, and none departs before one that it goes on from arrives
abbrev pub meeting_tests : Tables → ℕ → List LinkRow → LinkRow → List (Test InstanceRefusal)
meeting_tests tables number before row =
    TripUsedTwice number when UsesTwice before row
    ∷ WrongStation number when HasTripsThat (λ a b. a.to ≢ b.from) tables row
    ∷ TooEarly number when HasTripsThat (λ a b. b.departure < a.arrival) tables row
    ∷ []

abbrev pub link_tests : Tables → ℕ → List LinkRow → LinkRow → List (Test InstanceRefusal)
link_tests tables number before row = kind_tests tables number row ++ meeting_tests tables number before row

-- ---- all tests, one table after another, and the rows of each in order
abbrev pub day_tests : Tables → List (Test InstanceRefusal)
day_tests tables =
    row_tests type_tests [] tables.types
    ++ (row_tests station_tests [] tables.stations
    ++ (row_tests (stock_tests tables) [] tables.stock
    ++ (count_tests tables
    ++ (row_tests (trip_tests tables) [] tables.trips
    ++ row_tests (link_tests tables) [] tables.links))))
