-- What laws ask of the parts of a day; each day that was accepted has it.
use Rattle.std.specs.Prelude.{ℕ, ◌+◌, ◌<◌, ◌≤◌, ◌≡◌, length, List, [], ◌∷◌, ◌==◌, ◌&&◌, true, if◌then◌else◌, All}
use Rattle.std.specs.Prelude.{IsTrue, Some, slice_get}
use Rattle.rail_base.specs.declared.limits.TheConstants.{MAX_CARRIAGES, MAX_SEATS, MAX_FIRST_SEATS, MAX_METRES}
use Rattle.rail_base.specs.declared.limits.TheConstants.{MAX_MINUTES, MAX_KM, MAX_DEMAND, MAX_FIRST_DEMAND}
use Rattle.rail_base.specs.declared.limits.TheConstants.{MAX_PLATFORM, MAX_REALLOCATION, MAX_STOCK, MAX_TYPES}
use Rattle.rail_base.specs.declared.limits.TheConstants.{MAX_STATIONS, MAX_TRIPS, MAX_LINKS, MAX_UNITS, MAX_WEIGHT}
use Rattle.rules.specs.declared.records.UnitType.{UnitType}
use Rattle.day_tables.specs.Admissible.{is_admissible}
use Rattle.day_tables.specs.Day.{Day, Units, leaves, arrives, from_of, to_of, km_of, demand_of, first_demand_of}
use Rattle.day_tables.specs.Day.{platform_of, reallocation_of, wanted_of, stock_units}
use Rattle.day_tables.specs.Links.{arriving_in, departing_in}
use Rattle.day_tables.specs.Lists.{count_of, has}
use Rattle.day_tables.specs.NamedEntries.{AreNamedApart}
use Rattle.rules.specs.declared.records.Link.{Link}
use Rattle.rules.specs.declared.records.LinkKind.{LinkKind}
use Rattle.rules.specs.declared.records.Stock.{Stock}

-- no number of a unit type is over its limit
pub record IsUnitType (t : UnitType) : Type 0 where
  pub carriages : t.carriages ≤ MAX_CARRIAGES
  pub seats : t.seats ≤ MAX_SEATS
  pub metres : t.metres ≤ MAX_METRES
  pub first : t.first ≤ MAX_FIRST_SEATS

-- the timetable: every trip arrives after it leaves and on the second day at the latest, what it names is there, and no
-- number of a trip, a station, a type or a weight is over its limit
pub record IsTimetable (day : Day) : Type 0 where
  pub time : (t : ℕ) → t < length day.trips → leaves day t < arrives day t
  pub late : (t : ℕ) → t < length day.trips → arrives day t < MAX_MINUTES
  pub origin : (t : ℕ) → t < length day.trips → from_of day t < length day.stations
  pub goal : (t : ℕ) → t < length day.trips → to_of day t < length day.stations
  pub km : (t : ℕ) → t < length day.trips → km_of day t ≤ MAX_KM
  pub demand : (t : ℕ) → t < length day.trips → demand_of day t ≤ MAX_DEMAND
  pub first_demand : (t : ℕ) → t < length day.trips → first_demand_of day t ≤ MAX_FIRST_DEMAND
  pub platform : (s : ℕ) → platform_of day s ≤ MAX_PLATFORM
  pub reallocation : (s : ℕ) → reallocation_of day s ≤ MAX_REALLOCATION
  pub unit_types : All IsUnitType day.types
  pub type_count : length day.types ≤ MAX_TYPES
  pub station_count : length day.stations ≤ MAX_STATIONS
  pub trip_count : length day.trips ≤ MAX_TRIPS
  pub link_count : length day.links ≤ MAX_LINKS
  pub carriage : day.weights.carriage ≤ MAX_WEIGHT
  pub shortage : day.weights.shortage ≤ MAX_WEIGHT
  pub shunting : day.weights.shunting ≤ MAX_WEIGHT

-- the units: each stands at a station of the day and is of a type of it, and they are not too many
pub record AreUnitsOf (units : Units) (day : Day) : Type 0 where
  pub home : (u : ℕ) → u < units.count → units.home u < length day.stations
  pub unit_type : (u : ℕ) → u < units.count → units.unit_type u < length day.types
  pub few : units.count ≤ MAX_UNITS

-- both, with the units of the stock
pub record IsDay (day : Day) : Type 0 where
  pub timetable : IsTimetable day
  pub units : AreUnitsOf (stock_units day) day

-- some composition may run on each trip
abbrev pub HaveCompositions : Day → Type 0
HaveCompositions day = (t : ℕ) → t < length day.trips → (types : List ℕ) × (is_admissible day t types ≡ true)

-- how often links name a trip on one side, as arriving or as departing
abbrev pub times_named : (LinkKind → List ℕ) → List Link → ℕ → ℕ
times_named side [] t = 0
times_named side (link ∷ links) t = count_of t (side link.kind) + times_named side links t

-- no trip arrives for two links or departs by two, each link names trips of the day, and none departs before one that
-- it goes on from arrives
pub record AreLinks (day : Day) : Type 0 where
  pub arriving_once : (t : ℕ) → times_named arriving_in day.links t ≤ 1
  pub departing_once : (t : ℕ) → times_named departing_in day.links t ≤ 1
  pub arriving : (l t : ℕ) (link : Link) → slice_get day.links l ≡ Some link → IsTrue (has t (arriving_in link.kind))
      → t < length day.trips
  pub departing : (l t : ℕ) (link : Link) → slice_get day.links l ≡ Some link → IsTrue (has t (departing_in link.kind))
      → t < length day.trips
  pub in_time : (l a b : ℕ) (link : Link) → slice_get day.links l ≡ Some link → IsTrue (has a (arriving_in link.kind))
      → IsTrue (has b (departing_in link.kind)) → arrives day a ≤ leaves day b

-- each arriving trip of a link goes to the station that each departing one leaves from
pub record DoMeet (day : Day) : Type 0 where
  pub station : (l a b : ℕ) (link : Link) → slice_get day.links l ≡ Some link → IsTrue (has a (arriving_in link.kind))
      → IsTrue (has b (departing_in link.kind)) → to_of day a ≡ from_of day b

-- how many stock rows are of a station and a type
abbrev pub rows_of : List Stock → ℕ → ℕ → ℕ
rows_of [] s m = 0
rows_of (row ∷ rows) s m = (if (row.station == s) && (row.unit_type == m) then 1 else 0) + rows_of rows s m

-- no station has two stock rows of one type, and none wants more units of a type at the end of the day than a stock row
-- may say
pub record IsStocked (day : Day) : Type 0 where
  pub once : (s m : ℕ) → rows_of day.stock s m ≤ 1
  pub few : (s m : ℕ) → wanted_of day s m ≤ MAX_STOCK

-- no two types, stations or trips have one name
pub record HaveNames (day : Day) : Type 0 where
  pub types : AreNamedApart (λ t. t.name) day.types
  pub stations : AreNamedApart (λ s. s.name) day.stations
  pub trips : AreNamedApart (λ t. t.name) day.trips
