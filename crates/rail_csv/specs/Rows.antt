-- What an accepted row is known to be: within the ranges of its columns.
use Rattle.std.specs.Prelude.{ℕ, List, length, ◌≤◌, ◌<◌, IsTrue, IfSome}
use Rattle.std.specs.List.{All}
use Rattle.rail_base.specs.Names.{is_name}
use Rattle.rail_base.specs.declared.limits.TheConstants.{MAX_TYPES, MAX_STATIONS, MAX_STOCK_ROWS, MAX_TRIPS, MAX_LINKS}
use Rattle.rail_base.specs.declared.limits.TheConstants.{MAX_PLAN_ROWS, MAX_CARRIAGES, MAX_SEATS, MAX_FIRST_SEATS}
use Rattle.rail_base.specs.declared.limits.TheConstants.{MAX_METRES, MAX_PLATFORM, MAX_REALLOCATION, MAX_STOCK}
use Rattle.rail_base.specs.declared.limits.TheConstants.{MAX_MINUTES, MAX_KM, MAX_DEMAND, MAX_FIRST_DEMAND, MAX_WEIGHT}
use Rattle.rail_base.specs.declared.limits.TheConstants.{MAX_COMPOSITION_UNITS, MAX_UNITS}
use Rattle.rail_csv.specs.declared.rows.TypeRow.{TypeRow}
use Rattle.rail_csv.specs.declared.rows.StationRow.{StationRow}
use Rattle.rail_csv.specs.declared.rows.StockRow.{StockRow}
use Rattle.rail_csv.specs.declared.rows.TripRow.{TripRow}
use Rattle.rail_csv.specs.declared.rows.LinkRow.{LinkRow}
use Rattle.rail_csv.specs.declared.rows.WeightsRow.{WeightsRow}
use Rattle.rail_csv.specs.declared.rows.PlanRow.{PlanRow}

abbrev pub IsName : List ℕ → Type 0
IsName text = IsTrue (is_name text)

abbrev pub LiesBetween : ℕ → ℕ → ℕ → Type 0
LiesBetween low high n = (low ≤ n) × (n ≤ high)

-- a minute of the planned day or the day after it
abbrev pub IsMinute : ℕ → Type 0
IsMinute minute = minute < MAX_MINUTES

pub record IsTypeRow (row : TypeRow) : Type 0 where
  pub name : IsName row.name
  pub carriages : LiesBetween 1 MAX_CARRIAGES row.carriages
  pub seats : LiesBetween 1 MAX_SEATS row.seats
  pub metres : LiesBetween 1 MAX_METRES row.metres
  pub family : IsName row.family
  pub first : LiesBetween 0 MAX_FIRST_SEATS row.first

pub record IsStationRow (row : StationRow) : Type 0 where
  pub name : IsName row.name
  pub platform : LiesBetween 1 MAX_PLATFORM row.platform
  pub reallocation : LiesBetween 0 MAX_REALLOCATION row.reallocation

pub record IsStockRow (row : StockRow) : Type 0 where
  pub station : IsName row.station
  pub unit_type : IsName row.unit_type
  pub start : LiesBetween 0 MAX_STOCK row.start
  pub end : LiesBetween 0 MAX_STOCK row.end

pub record IsTripRow (row : TripRow) : Type 0 where
  pub name : IsName row.name
  pub from : IsName row.from
  pub departure : IsMinute row.departure
  pub to : IsName row.to
  pub arrival : IsMinute row.arrival
  pub km : LiesBetween 1 MAX_KM row.km
  pub demand : LiesBetween 0 MAX_DEMAND row.demand
  pub first : LiesBetween 0 MAX_FIRST_DEMAND row.first

pub record IsLinkRow (row : LinkRow) : Type 0 where
  pub arriving : IsName row.arriving
  pub arriving2 : IfSome row.arriving2 (λ name. IsName name)
  pub departing : IsName row.departing
  pub departing2 : IfSome row.departing2 (λ name. IsName name)

pub record IsWeightsRow (row : WeightsRow) : Type 0 where
  pub carriage : LiesBetween 0 MAX_WEIGHT row.carriage
  pub shortage : LiesBetween 0 MAX_WEIGHT row.shortage
  pub shunting : LiesBetween 0 MAX_WEIGHT row.shunting

pub record IsPlanRow (row : PlanRow) : Type 0 where
  pub trip : IsName row.trip
  pub few : length row.units ≤ MAX_COMPOSITION_UNITS
  pub units : All (λ unit. unit < MAX_UNITS) row.units

-- rows of a table: as many as the table may have, each within its ranges
pub record AreRows {Row : Type 0} (limit : ℕ) (IsRow : Row → Type 0) (rows : List Row) : Type 0 where
  pub few : length rows ≤ limit
  pub each : All (λ row. IsRow row) rows

abbrev pub AreTypeRows : List TypeRow → Type 0
AreTypeRows rows = AreRows MAX_TYPES IsTypeRow rows

abbrev pub AreStationRows : List StationRow → Type 0
AreStationRows rows = AreRows MAX_STATIONS IsStationRow rows

abbrev pub AreStockRows : List StockRow → Type 0
AreStockRows rows = AreRows MAX_STOCK_ROWS IsStockRow rows

abbrev pub AreTripRows : List TripRow → Type 0
AreTripRows rows = AreRows MAX_TRIPS IsTripRow rows

abbrev pub AreLinkRows : List LinkRow → Type 0
AreLinkRows rows = AreRows MAX_LINKS IsLinkRow rows

abbrev pub ArePlanRows : List PlanRow → Type 0
ArePlanRows rows = AreRows MAX_PLAN_ROWS IsPlanRow rows
