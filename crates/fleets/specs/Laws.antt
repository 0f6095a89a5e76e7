-- What is so of fleets and of the days with them.
use Rattle.std.specs.Prelude.{ℕ, ◌≡◌, ◌<◌, ◌+◌, ◌*◌, List, length, map, slice_index, take, Ok}
use Rattle.day_tables.specs.declared.building.tables.Tables.{Tables}
use Rattle.timetable.specs.Accepted.{IsSoundDay}
use Rattle.timetable.specs.Build.{day_of}
use Rattle.timetable.specs.Cost.{plan_cost}
use Rattle.timetable.specs.Day.{Day, home_of, type_of, types_of, unit_count, wanted_of}
use Rattle.timetable.specs.Renumbering.{renumbered}
use Rattle.timetable.specs.Running.{Runs}
use Rattle.timetable.specs.Starts.{start_of}
use Rattle.fleets.specs.Fleets.{FitsDay, IsNowhereAbove, fleet_size, own_fleet, tables_with, with_fleet}

-- where tables make a day, they make the day with a fleet that fits it once the stock rows are those of the fleet
abbrev pub TablesMakeDaysOfFleets : Type 0
TablesMakeDaysOfFleets = (tables : Tables) (day : Day) (fleet : List ℕ) → day_of tables ≡ Ok day → FitsDay day fleet
    → day_of (tables_with day fleet tables) ≡ Ok (with_fleet fleet day)

-- a day's own fleet has at a station as many units of a type as start the day there
abbrev pub OwnFleetsStand : Type 0
OwnFleetsStand = (day : Day) (s m : ℕ) → s < length day.stations → m < length day.types
    → slice_index (own_fleet day) (s * length day.types + m) ≡ start_of day s m

-- at a station the day with a fleet begins and is to end with as many units of a type as the fleet has there
pub record StandAt (day : Day) (fleet : List ℕ) (s m : ℕ) : Type 0 where
  pub at_start : start_of (with_fleet fleet day) s m ≡ slice_index fleet (s * length day.types + m)
  pub at_end : wanted_of (with_fleet fleet day) s m ≡ slice_index fleet (s * length day.types + m)

abbrev pub FleetsStand : Type 0
FleetsStand = (day : Day) (fleet : List ℕ) (s m : ℕ) → FitsDay day fleet → s < length day.stations
    → m < length day.types → StandAt day fleet s m

-- the unit is one of the day, at home at the station and of the type
pub record IsUnitOf (day : Day) (s m u : ℕ) : Type 0 where
  pub known : u < unit_count day
  pub home : home_of day u ≡ s
  pub unit_type : type_of day u ≡ m

-- The units of the day with a fleet are numbered by station and then type: those of a station and a type have the
-- numbers after those of all places before theirs, and there are no others.
pub record AreNumberedByPlace (day : Day) (fleet : List ℕ) : Type 0 where
  pub of_place : (s m k : ℕ) → m < length day.types → k < slice_index fleet (s * length day.types + m)
      → IsUnitOf (with_fleet fleet day) s m (fleet_size (take (s * length day.types + m) fleet) + k)
  pub all : unit_count (with_fleet fleet day) ≡ fleet_size fleet

abbrev pub FleetsAreNumbered : Type 0
FleetsAreNumbered = (day : Day) (fleet : List ℕ) → AreNumberedByPlace day fleet

-- a fleet that has nowhere more units than one that fits a day fits it too
abbrev pub SmallerFleetsFit : Type 0
SmallerFleetsFit = (day : Day) (small large : List ℕ) → FitsDay day large → IsNowhereAbove small large
    → FitsDay day small

-- An accepted day with a fleet that fits it is as the laws on days ask for it.
abbrev pub DaysOfFleetsAreSound : Type 0
DaysOfFleetsAreSound = (day : Day) (fleet : List ℕ) → IsSoundDay day → FitsDay day fleet
    → IsSoundDay (with_fleet fleet day)

-- a plan of the day with a fleet runs, and is another plan with other numbers of its units: so it has the types and the
-- cost of that plan
pub record RunsAlikeWith (day : Day) (small large : List ℕ) (plan : List (List ℕ)) : Type 0 where
  pub other : List (List ℕ)
  pub number : ℕ → ℕ
  pub is : other ≡ renumbered number plan
  pub does_run : Runs (with_fleet large day) other
  pub types : map (types_of (with_fleet large day)) other ≡ map (types_of (with_fleet small day)) plan
  pub cost : plan_cost (with_fleet large day) other ≡ plan_cost (with_fleet small day) plan

-- A plan that runs on the day with one fleet gives such a plan on the day with any fleet that has nowhere fewer units.
abbrev pub PlansRunWithMoreUnits : Type 0
PlansRunWithMoreUnits = (day : Day) (small large : List ℕ) (plan : List (List ℕ)) → IsNowhereAbove small large
    → Runs (with_fleet small day) plan → RunsAlikeWith day small large plan
