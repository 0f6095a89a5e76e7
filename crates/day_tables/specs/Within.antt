-- What is known of the entries of a day that was accepted: none is over its limits, and what it names is there.
use Rattle.std.specs.Prelude.{ℕ, List, length, ◌≤◌, ◌<◌, ◌≡◌}
use Rattle.std.specs.List.{All}
use Rattle.rail_base.specs.declared.limits.TheConstants.{MAX_TYPES, MAX_PLATFORM, MAX_REALLOCATION, MAX_STATIONS}
use Rattle.rail_base.specs.declared.limits.TheConstants.{MAX_MINUTES, MAX_KM, MAX_DEMAND, MAX_FIRST_DEMAND}
use Rattle.rail_base.specs.declared.limits.TheConstants.{MAX_TRIPS, MAX_WEIGHT}
use Rattle.rules.specs.declared.records.UnitType.{UnitType}
use Rattle.rules.specs.declared.records.Link.{Link}
use Rattle.rules.specs.declared.records.LinkKind.{LinkKind}
use Rattle.rules.specs.declared.records.LinkKind.TheVariants.{Turn, Join, Split}
use Rattle.rules.specs.declared.records.Station.{Station}
use Rattle.rules.specs.declared.records.Trip.{Trip}
use Rattle.rules.specs.declared.records.Unit as unit
use Rattle.rules.specs.declared.records.Weights.{Weights}
use Rattle.day_tables.specs.Accepted.{IsUnitType}
use Rattle.day_tables.specs.Day.{Day, leaves, arrives, from_of, to_of, units_of}
use Rattle.day_tables.specs.LinkRows.{NamesBelow}

pub record AreTypes (types : List UnitType) : Type 0 where
  pub few : length types ≤ MAX_TYPES
  pub each : All IsUnitType types

pub record IsStation (station : Station) : Type 0 where
  pub platform : station.platform ≤ MAX_PLATFORM
  pub reallocation : station.reallocation ≤ MAX_REALLOCATION

pub record AreStations (stations : List Station) : Type 0 where
  pub few : length stations ≤ MAX_STATIONS
  pub each : All IsStation stations

-- the home and the type of a unit are there
pub record IsUnitAt (stations types : ℕ) (u : unit.Unit) : Type 0 where
  pub home : u.home < stations
  pub unit_type : u.unit_type < types

-- the trip arrives after it leaves and on the second day at the latest, and its stations are there
pub record IsTripAt (stations : ℕ) (trip : Trip) : Type 0 where
  pub time : trip.departure < trip.arrival
  pub late : trip.arrival < MAX_MINUTES
  pub origin : trip.from < stations
  pub goal : trip.to < stations
  pub km : trip.km ≤ MAX_KM
  pub demand : trip.demand ≤ MAX_DEMAND
  pub first : trip.first ≤ MAX_FIRST_DEMAND

pub record AreTrips (stations : ℕ) (trips : List Trip) : Type 0 where
  pub few : length trips ≤ MAX_TRIPS
  pub each : All (IsTripAt stations) trips

-- each arriving trip of a link, with each departing one
abbrev pub EachPair : (ℕ → ℕ → Type 0) → LinkKind → Type 0
EachPair P (Turn a b uncouple couple exchange) = P a b
EachPair P (Join a1 a2 b) = P a1 b × P a2 b
EachPair P (Split a b1 b2) = P a b1 × P a b2

-- the trips of the link are there and meet at one station, and none departs before one that it goes on from arrives
pub record IsLinkAt (day : Day) (link : Link) : Type 0 where
  pub trips : NamesBelow (length day.trips) link.kind
  pub meet : EachPair (λ a b. to_of day a ≡ from_of day b) link.kind
  pub in_time : EachPair (λ a b. arrives day a ≤ leaves day b) link.kind

pub record AreWeights (weights : Weights) : Type 0 where
  pub carriage : weights.carriage ≤ MAX_WEIGHT
  pub shortage : weights.shortage ≤ MAX_WEIGHT
  pub shunting : weights.shunting ≤ MAX_WEIGHT

-- all entries of a day
pub record IsDayWithin (day : Day) : Type 0 where
  pub types : AreTypes day.types
  pub stations : AreStations day.stations
  pub units : All (IsUnitAt (length day.stations) (length day.types)) (units_of day)
  pub trips : AreTrips (length day.stations) day.trips
  pub links : All (IsLinkAt day) day.links
  pub weights : AreWeights day.weights
