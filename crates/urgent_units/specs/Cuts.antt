-- Yard cuts. A yard cut is a set of moments of the stations without the last moment of the depot: told for each
-- station, and then for each of its moments, whether it is in the cut.
use Rattle.std.specs.Prelude.{ℕ, suc, ◌≡◌, ◌<◌, ◌+◌, ◌-◌, List, [], length, Bool, false, not, ◌&&◌, if◌then◌else◌}
use Rattle.std.specs.Prelude.{Option, Some, None, slice_get, unwrap_or}
use Rattle.std.specs.List.{count_by}
use Rattle.timetable.specs.Day.{Day, home_of}
use Rattle.timetable.specs.Lists.{sum_below}
use Rattle.urgent_units.specs.declared.legs.Leg.{Leg}
use Rattle.urgent_units.specs.declared.wish.Wish.{Wish}
use Rattle.urgent_units.specs.Held.{held}
use Rattle.urgent_units.specs.Legs.{TypeLegs, all_legs}
use Rattle.urgent_units.specs.Moments.{moment_count, moment_of}

-- the moments of a station
abbrev pub moments_in : List (List Bool) → ℕ → List Bool
moments_in cut s = unwrap_or (slice_get cut s) []

-- whether moment k of station s is in a cut
unfoldable pub is_in : List (List Bool) → ℕ → ℕ → Bool
is_in cut s k = unwrap_or (slice_get (moments_in cut s) k) false

-- it tells of each moment of these legs
pub record HasMoments (legs : TypeLegs) (cut : List (List Bool)) : Type 0 where
  pub stations : length cut ≡ legs.stations
  pub moments : (s : ℕ) → s < legs.stations → length (moments_in cut s) ≡ moment_count legs s

-- the number of urgent units whose home's moment 0 is not in the cut
abbrev pub homes_outside : Day → Wish → List (List Bool) → ℕ
homes_outside day wish cut = count_by (λ u. not (is_in cut (home_of day u) 0)) wish.units

-- a leg leaves at a moment in the cut, and is ready at one that isn't in it
abbrev pub goes_out : TypeLegs → List (List Bool) → Leg → Bool
goes_out legs cut leg =
    is_in cut leg.from (moment_of legs leg.from leg.departs) && not (is_in cut leg.to (moment_of legs leg.to leg.ready))

-- the number of such legs
abbrev pub legs_out : TypeLegs → List (List Bool) → ℕ
legs_out legs cut = count_by (goes_out legs cut) (all_legs legs)

-- moment k of the station is in the cut, and the next one isn't
abbrev pub is_left : List (List Bool) → ℕ → ℕ → Bool
is_left cut s k = is_in cut s k && not (is_in cut s (suc k))

-- the units that are held at the moments of a station in the cut that have a next one which isn't in it
abbrev pub held_out_at : TypeLegs → List (List Bool) → ℕ → ℕ
held_out_at legs cut s = sum_below (λ k. if is_left cut s k then held legs s k else 0) (moment_count legs s - 1)

abbrev pub held_out : TypeLegs → List (List Bool) → ℕ
held_out legs cut = sum_below (held_out_at legs cut) legs.stations

-- what a cut is worth
unfoldable pub cut_value : Day → TypeLegs → Wish → List (List Bool) → ℕ
cut_value day legs wish cut = homes_outside day wish cut + legs_out legs cut + held_out legs cut

-- the same, and nothing where the last moment of the depot is in the set
unfoldable pub value_of : Day → TypeLegs → Wish → List (List Bool) → Option ℕ
value_of day legs wish cut =
    if is_in cut wish.depot (moment_count legs wish.depot - 1) then None else Some (cut_value day legs wish cut)
