-- The moments of a station, for one type. Moment 0 is the start of the day. The further moments are the distinct
-- minutes at which a leg of the type leaves the station or is ready at it, in rising order; and then, as its last
-- moment, comes the end of the day.
use Rattle.std.specs.Prelude.{ℕ, zero, suc, ◌≡◌, ◌<◌, ◌+◌, ◌⊎◌, List, [], ◌∷◌, length, ◌==◌, if◌then◌else◌}
use Rattle.std.specs.List.{AllPairs, Contains}
use Rattle.timetable.specs.Minutes.{inserted}
use Rattle.inventory.specs.CountTable.{earlier}
use Rattle.urgent_units.specs.declared.legs.Leg.{Leg}
use Rattle.urgent_units.specs.Legs.{TypeLegs, all_legs}

-- a leg leaves the station at the minute, or is ready at it then
pub record HappensAt (legs : List Leg) (s minute : ℕ) : Type 0 where
  pub leg : Leg
  pub of_legs : Contains legs leg
  pub at : ((leg.from ≡ s) × (leg.departs ≡ minute)) ⊎ ((leg.to ≡ s) × (leg.ready ≡ minute))

-- these are the minutes at which something happens at the station, in rising order and each once
pub record AreEventMinutes (legs : List Leg) (s : ℕ) (minutes : List ℕ) : Type 0 where
  pub rise : AllPairs (λ a b. a < b) minutes
  pub happen : (m : ℕ) → Contains minutes m → HappensAt legs s m
  pub all : (m : ℕ) → HappensAt legs s m → Contains minutes m

-- minutes in rising order, and with them those of a leg at the station
abbrev pub with_departure : ℕ → Leg → List ℕ → List ℕ
with_departure s leg minutes = if leg.from == s then inserted leg.departs minutes else minutes

abbrev pub with_return : ℕ → Leg → List ℕ → List ℕ
with_return s leg minutes = if leg.to == s then inserted leg.ready minutes else minutes

-- and with those of legs
abbrev pub with_legs : ℕ → List Leg → List ℕ → List ℕ
with_legs s [] minutes = minutes
with_legs s (leg ∷ legs) minutes = with_departure s leg (with_return s leg (with_legs s legs minutes))

unfoldable pub minutes_at : TypeLegs → ℕ → List ℕ
minutes_at legs s = with_legs s (all_legs legs) []

-- how many moments a station has
abbrev pub moment_count : TypeLegs → ℕ → ℕ
moment_count legs s = length (minutes_at legs s) + 2

-- the moment of a minute at which something happens at the station: moment 0, and those of the minutes before it, come
-- first
abbrev pub moment_of : TypeLegs → ℕ → ℕ → ℕ
moment_of legs s minute = suc (earlier minute (minutes_at legs s))

-- how many minutes are over when all that happens at a moment has happened, where some were over before: none more at
-- moment 0, those up to the minute of a further moment, and at the end of the day none more
abbrev pub over_after : ℕ → List ℕ → ℕ → ℕ
over_after over [] k = over
over_after over (m ∷ ms) zero = over
over_after over (m ∷ ms) (suc k) = over_after (m + 1) ms k

abbrev pub over_at : TypeLegs → ℕ → ℕ → ℕ
over_at legs s k = over_after 0 (minutes_at legs s) k
