-- The day as a value: plain lists, in which stations, types, trips and links are numbered by their place.
-- A number that is out of range reads as something harmless, so that laws hold for every number.
use Rattle.std.specs.Prelude.{ℕ, List, [], ◌∷◌, ◌++◌, ◌+◌, length, replicate, ◌==◌, ◌&&◌, if◌then◌else◌, map}
use Rattle.rules.specs.declared.records.UnitType.{UnitType}
use Rattle.rules.specs.declared.records.Station.{Station}
use Rattle.rules.specs.declared.records.Stock.{Stock}
use Rattle.rules.specs.declared.records.Trip.{Trip}
use Rattle.rules.specs.declared.records.Link.{Link}
use Rattle.rules.specs.declared.records.Unit as unit
use Rattle.rules.specs.declared.records.Weights.{Weights}
use Rattle.rules.specs.Lists.{of_entry}

pub record Day : Type 0 where
  pub types : List UnitType
  pub stations : List Station
  pub stock : List Stock
  pub trips : List Trip
  pub links : List Link
  pub weights : Weights

-- when and where a trip leaves and arrives
unfoldable pub leaves : Day → ℕ → ℕ
leaves day t = of_entry (λ trip. trip.departure) day.trips t 0

unfoldable pub arrives : Day → ℕ → ℕ
arrives day t = of_entry (λ trip. trip.arrival) day.trips t 1

unfoldable pub from_of : Day → ℕ → ℕ
from_of day t = of_entry (λ trip. trip.from) day.trips t 0

unfoldable pub to_of : Day → ℕ → ℕ
to_of day t = of_entry (λ trip. trip.to) day.trips t 0

unfoldable pub km_of : Day → ℕ → ℕ
km_of day t = of_entry (λ trip. trip.km) day.trips t 0

-- the seats wanted on a trip: of second class, and of first class
unfoldable pub demand_of : Day → ℕ → ℕ
demand_of day t = of_entry (λ trip. trip.demand) day.trips t 0

unfoldable pub first_demand_of : Day → ℕ → ℕ
first_demand_of day t = of_entry (λ trip. trip.first) day.trips t 0

-- the metres of a station's platform, and the minutes until a unit given there is ready
unfoldable pub platform_of : Day → ℕ → ℕ
platform_of day s = of_entry (λ station. station.platform) day.stations s 0

unfoldable pub reallocation_of : Day → ℕ → ℕ
reallocation_of day s = of_entry (λ station. station.reallocation) day.stations s 0

-- the minute from which a unit that a trip gives may be taken
abbrev pub ready_at : Day → ℕ → ℕ
ready_at day t = arrives day t + reallocation_of day (to_of day t)

-- the units of the stock rows: numbered by row, and then within the row
abbrev pub units_in : List Stock → List unit.Unit
units_in [] = []
units_in (row ∷ rows) = replicate row.start (record { unit_type = row.unit_type; home = row.station }) ++ units_in rows

unfoldable pub units_of : Day → List unit.Unit
units_of day = units_in day.stock

-- how many units there are
abbrev pub unit_count : Day → ℕ
unit_count day = length (units_of day)

unfoldable pub type_of : Day → ℕ → ℕ
type_of day u = of_entry (λ u. u.unit_type) (units_of day) u 0

-- the station where a unit stands at the start of the day
unfoldable pub home_of : Day → ℕ → ℕ
home_of day u = of_entry (λ u. u.home) (units_of day) u 0

-- Units that run on a day: how many there are, numbered from 0, the type of each, and the station where each stands at
-- the start of the day.
pub record Units : Type 0 where
  pub count : ℕ
  pub unit_type : ℕ → ℕ
  pub home : ℕ → ℕ

-- the units of the stock
abbrev pub stock_units : Day → Units
stock_units day = record { count = unit_count day; unit_type = type_of day; home = home_of day }

-- how many units of a type are wanted at a station at the end of the day: none where no stock row says it
abbrev pub wanted_in : List Stock → ℕ → ℕ → ℕ
wanted_in [] s m = 0
wanted_in (row ∷ rows) s m = if (row.station == s) && (row.unit_type == m) then row.end else wanted_in rows s m

unfoldable pub wanted_of : Day → ℕ → ℕ → ℕ
wanted_of day s m = wanted_in day.stock s m

-- the types of units
abbrev pub types_of : Day → List ℕ → List ℕ
types_of day us = map (type_of day) us
