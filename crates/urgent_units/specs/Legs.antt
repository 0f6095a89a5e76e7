-- The legs of the units of a type. A leg is a longest run of trips in a unit's duty, each kept into the next. It leaves
-- where and when its first trip does, and the unit is ready where its last trip arrives, once the reallocation time is
-- over there.
use Rattle.std.specs.Prelude.{ℕ, List, [], ◌∷◌, length, map, Bool, ◌==◌, filter}
use Rattle.std.specs.List.{flat_map}
use Rattle.timetable.specs.Day.{Day, leaves, from_of, to_of, home_of, type_of, unit_count, ready_at}
use Rattle.timetable.specs.Duties.{duty}
use Rattle.timetable.specs.Links.{kept}
use Rattle.timetable.specs.Lists.{has, below}
use Rattle.urgent_units.specs.declared.legs.Leg.{Leg}
use Rattle.urgent_units.specs.declared.legs.UnitLegs.{UnitLegs}
use Rattle.urgent_units.specs.Runs.{runs_of, first_of, last_trip_of}

-- the unit stays in the train from trip a to trip b
abbrev pub stays : Day → List (List ℕ) → ℕ → ℕ → ℕ → Bool
stays day plan u a b = has u (kept day plan a b)

-- the leg of a run of trips
abbrev pub leg_of : Day → List ℕ → Leg
leg_of day run = record {
  from = from_of day (first_of run);
  departs = leaves day (first_of run);
  to = to_of day (last_trip_of run);
  ready = ready_at day (last_trip_of run);
  trips = length run;
}

-- the legs of a unit in a plan, in the order of its duty
abbrev pub legs_of_unit : Day → List (List ℕ) → ℕ → List Leg
legs_of_unit day plan u = map (leg_of day) (runs_of (stays day plan u) (duty day plan u))

-- a unit with its home and its legs
abbrev pub unit_legs : Day → List (List ℕ) → ℕ → UnitLegs
unit_legs day plan u = record { unit = u; home = home_of day u; legs = legs_of_unit day plan u }

-- what is known of a type: how many stations the day has, and the units of the type with their legs
pub record TypeLegs : Type 0 where
  pub stations : ℕ
  pub units : List UnitLegs

-- the units of a type with their legs, by number
abbrev pub legs_of : Day → List (List ℕ) → ℕ → TypeLegs
legs_of day plan m = record {
  stations = length day.stations;
  units = map (unit_legs day plan) (filter (λ u. type_of day u == m) (below (unit_count day)));
}

-- the legs of all these units
abbrev pub all_legs : TypeLegs → List Leg
all_legs legs = flat_map (λ unit. unit.legs) legs.units

-- where legs that leave one after another end, beginning at a station
abbrev pub end_of : ℕ → List Leg → ℕ
end_of at [] = at
end_of at (leg ∷ legs) = end_of leg.to legs
