-- Where the units and trips of a day are, and the moment that it has come to.
use Rattle.std.specs.Prelude.{ℕ, ◌+◌, ◌*◌, List, [], ◌∷◌, Bool, true, false, ◌==◌, ◌&&◌, map, slice_get, slice_set}
use Rattle.std.specs.Prelude.{unwrap_or, nat_le}
use Rattle.timetable.specs.Day.{Day, leaves, arrives, units_of}
use Rattle.day_simulator.specs.declared.events.DayEvent.{DayEvent}
use Rattle.day_simulator.specs.declared.events.DayEvent.TheVariants.{Depart, Arrive}
use Rattle.day_simulator.specs.declared.events.UnitLocation.{UnitLocation}
use Rattle.day_simulator.specs.declared.events.UnitLocation.TheVariants.{Yard, Aboard, Standing}
use Rattle.day_simulator.specs.declared.events.Stage.{Stage}
use Rattle.day_simulator.specs.declared.events.Stage.TheVariants as stage

-- places: one for each unit; stages: one for each trip; moment: twice the minute of the last event, and one more once a
-- departure was made in that minute
pub record State : Type 0 where
  pub locations : List UnitLocation
  pub stages : List Stage
  pub moment : ℕ

-- at the start each unit stands at home, ready from the first minute on, and each trip waits
unfoldable pub first_state : Day → State
first_state day = record {
  locations = map (λ unit. Yard unit.home 0) (units_of day);
  stages = map (λ trip. stage.Waiting) day.trips;
  moment = 0;
}

-- where a unit is
unfoldable pub location_of : List UnitLocation → ℕ → UnitLocation
location_of locations u = unwrap_or (slice_get locations u) (Yard 0 0)

-- what has become of a trip
unfoldable pub stage_of : List Stage → ℕ → Stage
stage_of stages t = unwrap_or (slice_get stages t) stage.Arrived

abbrev pub is_waiting : Stage → Bool
is_waiting stage.Waiting = true
is_waiting stage.UnderWay = false
is_waiting stage.Arrived = false

abbrev pub is_under_way : Stage → Bool
is_under_way stage.Waiting = false
is_under_way stage.UnderWay = true
is_under_way stage.Arrived = false

abbrev pub has_arrived : Stage → Bool
has_arrived stage.Waiting = false
has_arrived stage.UnderWay = false
has_arrived stage.Arrived = true

-- the unit stands in the yard of a station, and is ready at a minute
abbrev pub is_ready : ℕ → ℕ → UnitLocation → Bool
is_ready station minute (Yard s ready) = (s == station) && nat_le ready minute
is_ready station minute (Aboard t) = false
is_ready station minute (Standing t) = false

abbrev pub is_in_yard : ℕ → UnitLocation → Bool
is_in_yard station (Yard s ready) = s == station
is_in_yard station (Aboard t) = false
is_in_yard station (Standing t) = false

-- the trip of an event
abbrev pub trip_of : DayEvent → ℕ
trip_of (Depart t) = t
trip_of (Arrive t) = t

-- when an event comes: in each minute arrivals come before departures
unfoldable pub moment_of : Day → DayEvent → ℕ
moment_of day (Depart t) = 2 * leaves day t + 1
moment_of day (Arrive t) = 2 * arrives day t

-- these units are all put to one place
abbrev pub put_all : List UnitLocation → List ℕ → UnitLocation → List UnitLocation
put_all locations [] place = locations
put_all locations (u ∷ us) place = put_all (slice_set locations u place) us place
