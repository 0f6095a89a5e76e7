-- The duty of a unit, trip by trip, with the place of the unit in each.
use Rattle.std.specs.Prelude.{ℕ, List, map, ◌==◌}
use Rattle.std.specs.List.{position_or_len}
use Rattle.timetable.specs.Day.{Day, unit_count}
use Rattle.timetable.specs.Duties.{duty}
use Rattle.timetable.specs.Links.{list_of}
use Rattle.timetable.specs.Lists.{below}
use Rattle.unit_duties.specs.declared.stops.Stop.{Stop}

-- the first place of a unit in a list that has it, counted from 0 at the front
abbrev pub first_place : ℕ → List ℕ → ℕ
first_place u us = position_or_len (λ v. v == u) us

-- a unit on a trip, at the first place where the trip lists it
abbrev pub stop_on : List (List ℕ) → ℕ → ℕ → Stop
stop_on plan u t = record { trip = t; position = first_place u (list_of plan t) }

-- the trips of a unit's duty in their order
abbrev pub stops_of : Day → List (List ℕ) → ℕ → List Stop
stops_of day plan u = map (stop_on plan u) (duty day plan u)

-- the duties of all units, by their numbers
unfoldable pub duties_of : Day → List (List ℕ) → List (List Stop)
duties_of day plan = map (stops_of day plan) (below (unit_count day))
