-- Stops that are added to duties, trip by trip.
use Rattle.std.specs.Prelude.{ℕ, List, [], ◌∷◌, if◌then◌else◌, slice_get, unwrap_or}
use Rattle.timetable.specs.Lists.{has}
use Rattle.unit_duties.specs.declared.stops.Stop.{Stop}
use Rattle.unit_duties.specs.Stops.{first_place}

-- the stops of a unit so far
abbrev pub stops_at : List (List Stop) → ℕ → List Stop
stops_at lists u = unwrap_or (slice_get lists u) []

-- the stop of a unit on a trip with these units, if it is one of them
abbrev pub stop_of : ℕ → ℕ → List ℕ → List Stop
stop_of t u us = if has u us then record { trip = t; position = first_place u us } ∷ [] else []
