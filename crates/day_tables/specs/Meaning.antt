-- What it means that a day is the day of tables, in the tables' own words: the rows in order, with what they name, and
-- no rule broken.
use Rattle.std.specs.Prelude.{ℕ, ◌≡◌, ◌≢◌, ◌<◌, ◌≤◌, List, length, Bool, true, false, Some, None}
use Rattle.std.specs.List.{AllZip, AllPairs}
use Rattle.rail_base.specs.declared.limits.TheConstants.{MAX_UNITS, MAX_COMPOSITIONS}
use Rattle.rules.specs.declared.records.UnitType.{UnitType}
use Rattle.rules.specs.declared.records.End.{End}
use Rattle.rules.specs.declared.records.End.TheVariants as at
use Rattle.rail_csv.specs.declared.rows.KindWord.TheVariants as words
use Rattle.rail_csv.specs.declared.rows.LinkRow.{LinkRow}
use Rattle.rail_csv.specs.declared.rows.StationRow.{StationRow}
use Rattle.rail_csv.specs.declared.rows.StockRow.{StockRow}
use Rattle.rail_csv.specs.declared.rows.TripRow.{TripRow}
use Rattle.rail_csv.specs.declared.rows.TypeRow.{TypeRow}
use Rattle.rail_csv.specs.declared.rows.WeightsRow.{WeightsRow}
use Rattle.rules.specs.declared.records.Link.{Link}
use Rattle.rules.specs.declared.records.LinkKind.{LinkKind}
use Rattle.rules.specs.declared.records.LinkKind.TheVariants.{Turn, Join, Split}
use Rattle.rules.specs.declared.records.Station.{Station}
use Rattle.rules.specs.declared.records.Stock.{Stock}
use Rattle.rules.specs.declared.records.Trip.{Trip}
use Rattle.rules.specs.declared.records.Weights.{Weights}
use Rattle.day_tables.specs.declared.building.tables.Tables.{Tables}
use Rattle.day_tables.specs.Accepted.{AreLinks, DoMeet, HaveCompositions}
use Rattle.day_tables.specs.Compositions.{compositions_of}
use Rattle.day_tables.specs.Day.{Day, leaves, arrives, from_of, to_of, unit_count}
use Rattle.day_tables.specs.NamedEntries.{IsNumberOf, AreNamedApart}

-- the unit type of a row
pub record IsTypeOf (row : TypeRow) (t : UnitType) : Type 0 where
  pub name : t.name ≡ row.name
  pub carriages : t.carriages ≡ row.carriages
  pub seats : t.seats ≡ row.seats
  pub metres : t.metres ≡ row.metres
  pub family : t.family ≡ row.family
  pub first : t.first ≡ row.first

-- the station of a row
pub record IsStationOf (row : StationRow) (station : Station) : Type 0 where
  pub name : station.name ≡ row.name
  pub platform : station.platform ≡ row.platform
  pub reallocation : station.reallocation ≡ row.reallocation

-- the weights of their row
pub record AreWeightsOf (row : WeightsRow) (weights : Weights) : Type 0 where
  pub carriage : weights.carriage ≡ row.carriage
  pub shortage : weights.shortage ≡ row.shortage
  pub shunting : weights.shunting ≡ row.shunting

-- the stock of a row
pub record IsStockOf (day : Day) (row : StockRow) (stock : Stock) : Type 0 where
  pub station : IsNumberOf (λ s. s.name) day.stations row.station stock.station
  pub unit_type : IsNumberOf (λ t. t.name) day.types row.unit_type stock.unit_type
  pub start : stock.start ≡ row.start
  pub end : stock.end ≡ row.end

-- the trip of a row
pub record IsTripOf (day : Day) (row : TripRow) (trip : Trip) : Type 0 where
  pub name : trip.name ≡ row.name
  pub from : IsNumberOf (λ s. s.name) day.stations row.from trip.from
  pub departure : trip.departure ≡ row.departure
  pub to : IsNumberOf (λ s. s.name) day.stations row.to trip.to
  pub arrival : trip.arrival ≡ row.arrival
  pub km : trip.km ≡ row.km
  pub demand : trip.demand ≡ row.demand
  pub first : trip.first ≡ row.first

-- a turn names one trip on either side, and its ends: two of them where it exchanges units
pub record IsTurnOf (IsTrip : List ℕ → ℕ → Type 0) (row : LinkRow) (a b : ℕ) (uncouple couple : End)
    (exchange : Bool) : Type 0 where
  pub kind : row.kind ≡ words.Turn
  pub arriving : IsTrip row.arriving a
  pub no_arriving2 : row.arriving2 ≡ None
  pub departing : IsTrip row.departing b
  pub no_departing2 : row.departing2 ≡ None
  pub uncoupling : uncouple ≡ row.uncouple
  pub coupling : couple ≡ row.couple
  pub exchanging : exchange ≡ row.exchange
  pub two_ends : row.exchange ≡ true → (row.uncouple ≢ at.None) × (row.couple ≢ at.None)

-- a join names two arriving trips and one departing trip, no end and no exchange
pub record IsJoinOf (IsTrip : List ℕ → ℕ → Type 0) (row : LinkRow) (a1 a2 b : ℕ) : Type 0 where
  pub kind : row.kind ≡ words.Join
  pub arriving : IsTrip row.arriving a1
  pub name : List ℕ
  pub named : row.arriving2 ≡ Some name
  pub arriving2 : IsTrip name a2
  pub departing : IsTrip row.departing b
  pub no_departing2 : row.departing2 ≡ None
  pub no_uncoupling : row.uncouple ≡ at.None
  pub no_coupling : row.couple ≡ at.None
  pub no_exchange : row.exchange ≡ false

-- a split names one arriving trip and two departing trips, no end and no exchange
pub record IsSplitOf (IsTrip : List ℕ → ℕ → Type 0) (row : LinkRow) (a b1 b2 : ℕ) : Type 0 where
  pub kind : row.kind ≡ words.Split
  pub arriving : IsTrip row.arriving a
  pub no_arriving2 : row.arriving2 ≡ None
  pub departing : IsTrip row.departing b1
  pub name : List ℕ
  pub named : row.departing2 ≡ Some name
  pub departing2 : IsTrip name b2
  pub no_uncoupling : row.uncouple ≡ at.None
  pub no_coupling : row.couple ≡ at.None
  pub no_exchange : row.exchange ≡ false

abbrev pub IsKindOf : (List ℕ → ℕ → Type 0) → LinkRow → LinkKind → Type 0
IsKindOf IsTrip row (Turn a b uncouple couple exchange) = IsTurnOf IsTrip row a b uncouple couple exchange
IsKindOf IsTrip row (Join a1 a2 b) = IsJoinOf IsTrip row a1 a2 b
IsKindOf IsTrip row (Split a b1 b2) = IsSplitOf IsTrip row a b1 b2

-- the link of a row
pub record IsLinkOf (day : Day) (row : LinkRow) (link : Link) : Type 0 where
  pub kind : IsKindOf (IsNumberOf (λ t. t.name) day.trips) row link.kind
  pub reverse : link.reverse ≡ row.reverse

-- the stock is of another station or another type
abbrev pub IsOtherStock : Stock → Stock → Type 0
IsOtherStock a b = ¬ ((a.station ≡ b.station) × (a.unit_type ≡ b.unit_type))

pub record IsDayOf (tables : Tables) (day : Day) : Type 0 where
  -- the rows in order, with the numbers of what they name
  pub types : AllZip IsTypeOf tables.types day.types
  pub stations : AllZip IsStationOf tables.stations day.stations
  pub stock : AllZip (IsStockOf day) tables.stock day.stock
  pub trips : AllZip (IsTripOf day) tables.trips day.trips
  pub links : AllZip (IsLinkOf day) tables.links day.links
  pub weights : AreWeightsOf tables.weights day.weights
  -- each name once, and each station and type once in the stock
  pub type_names : AreNamedApart (λ t. t.name) day.types
  pub station_names : AreNamedApart (λ s. s.name) day.stations
  pub trip_names : AreNamedApart (λ t. t.name) day.trips
  pub stock_rows : AllPairs IsOtherStock day.stock
  pub units : unit_count day ≤ MAX_UNITS
  pub compositions : length (compositions_of day) ≤ MAX_COMPOSITIONS
  -- every trip goes to another station, arrives after it leaves, and some composition may run on it
  pub elsewhere : (t : ℕ) → t < length day.trips → from_of day t ≢ to_of day t
  pub later : (t : ℕ) → t < length day.trips → leaves day t < arrives day t
  pub served : HaveCompositions day
  -- no trip is linked twice on one side, and the trips of a link meet at a station in time
  pub linked : AreLinks day
  pub meet : DoMeet day
