-- The inside of the legs of a type.
use Rattle.std.specs.Prelude.{ℕ, ◌≡◌, ◌<◌, ◌≤◌, ◌+◌, List, [], ◌∷◌, length, Some, slice_get, Bool, if◌then◌else◌}
use Rattle.std.specs.List.{All}
use Rattle.rail_base.specs.declared.limits.TheConstants.{MAX_MINUTES, MAX_REALLOCATION, MAX_STATIONS, MAX_TRIPS}
use Rattle.rail_base.specs.declared.limits.TheConstants.{MAX_UNITS}
use Rattle.urgent_units.specs.declared.legs.Leg.{Leg}
use Rattle.urgent_units.specs.declared.legs.Legs.TheInside.{Inside}
use Rattle.urgent_units.specs.declared.legs.UnitLegs.{UnitLegs}
use Rattle.timetable.specs.Day.{Day, from_of, leaves}
use Rattle.urgent_units.specs.Legs.{TypeLegs, leg_of}
use Rattle.urgent_units.specs.Moments.{minutes_at}

-- what contracts see of it
abbrev pub legs_in : Inside → TypeLegs
legs_in a = record { stations = length a.minutes.items; units = a.units.items }

-- the stations of the leg are there, and its minutes are within the two days and what a unit may have to wait after
-- them
pub record IsLegAt (legs : TypeLegs) (leg : Leg) : Type 0 where
  pub from : leg.from < legs.stations
  pub to : leg.to < legs.stations
  pub departs : leg.departs < MAX_MINUTES + MAX_REALLOCATION
  pub ready : leg.ready < MAX_MINUTES + MAX_REALLOCATION

-- legs within the limits of a day
pub record AreLegs (legs : TypeLegs) : Type 0 where
  pub stations : legs.stations ≤ MAX_STATIONS
  pub units : length legs.units ≤ MAX_UNITS
  pub homes : All (λ unit. unit.home < legs.stations) legs.units
  pub few : All (λ unit. length unit.legs ≤ MAX_TRIPS) legs.units
  pub each : All (λ unit. All (IsLegAt legs) unit.legs) legs.units

-- the units with their legs, and the minutes of the stations, which are those of the legs
pub record AreParts (units : List UnitLegs) (minutes : List (List ℕ)) : Type 0 where
  pub legs : AreLegs (record { stations = length minutes; units = units })
  pub each : (s : ℕ) → s < length minutes
      → slice_get minutes s ≡ Some (minutes_at (record { stations = length minutes; units = units }) s)

abbrev pub Holds : Inside → Type 0
Holds a = AreParts a.units.items a.minutes.items

-- ---- legs that are made from the last trip on

-- a leg with one trip more in front
abbrev pub longer : Day → ℕ → Leg → Leg
longer day t leg = record leg { from = from_of day t; departs = leaves day t; trips = leg.trips + 1 }

-- legs with one trip more in front: it joins the first of them, where it goes on, or is a leg by itself
abbrev pub with_leg : Day → Bool → ℕ → List Leg → List Leg
with_leg day goes_on t [] = leg_of day (t ∷ []) ∷ []
with_leg day goes_on t (leg ∷ legs) =
    if goes_on then longer day t leg ∷ legs else leg_of day (t ∷ []) ∷ leg ∷ legs
