-- Two units that exchange all that leaves from a minute on.
use Rattle.std.specs.Prelude.{ℕ, ◌≡◌, ◌≢◌, ◌<◌, ◌≤◌, ◌++◌, List, length, map, filter, not, ◌==◌, if◌then◌else◌, nat_lt}
use Rattle.std.specs.List.{All}
use Rattle.timetable.specs.Accepted.{IsDay, AreLinks, IsStocked}
use Rattle.timetable.specs.Day.{Day, leaves, home_of, type_of, unit_count}
use Rattle.timetable.specs.Links.{list_of}
use Rattle.timetable.specs.Lists.{listed}
use Rattle.timetable.specs.Running.{Runs}
use Rattle.urgent_units.specs.declared.legs.Leg.{Leg}
use Rattle.urgent_units.specs.Legs.{end_of, legs_of_unit}
use Rattle.urgent_units.specs.Namings.{IsNaming}

-- ---- the plan

-- of two units the other one, and each third one itself
abbrev pub exchanged : ℕ → ℕ → ℕ → ℕ
exchanged u v x = if x == u then v else if x == v then u else x

-- which unit takes the place of a unit on a trip: itself, where the trip leaves before the minute
abbrev pub in_place : Day → ℕ → ℕ → ℕ → ℕ → ℕ → ℕ
in_place day u v minute t x = if nat_lt (leaves day t) minute then x else exchanged u v x

-- the plan in which units take the places of others, trip by trip
unfoldable pub renamed : Day → (ℕ → ℕ → ℕ) → List (List ℕ) → List (List ℕ)
renamed day who plan = listed (λ t. map (who t) (list_of plan t)) (length day.trips)

abbrev pub exchanged_plan : Day → ℕ → ℕ → ℕ → List (List ℕ) → List (List ℕ)
exchanged_plan day u v minute plan = renamed day (in_place day u v minute) plan

-- ---- the yard

-- the legs that leave before a minute, and those that leave then or later
abbrev pub legs_before : ℕ → List Leg → List Leg
legs_before minute legs = filter (λ leg. nat_lt leg.departs minute) legs

abbrev pub legs_from : ℕ → List Leg → List Leg
legs_from minute legs = filter (λ leg. not (nat_lt leg.departs minute)) legs

-- the unit stands ready in the yard of the station at the minute: it is back from each leg that has left before the
-- minute, and the last of these has brought it there; or it is there from the start of the day
pub record StandsReady (day : Day) (plan : List (List ℕ)) (u s minute : ℕ) : Type 0 where
  pub ready : All (λ leg. leg.departs < minute → leg.ready ≤ minute) (legs_of_unit day plan u)
  pub there : end_of (home_of day u) (legs_before minute (legs_of_unit day plan u)) ≡ s

-- ---- the law

-- With the exchange the plan runs and has the same types; each of the two units has the legs of the other from the
-- minute on, and each third unit has its legs.
pub record RunsExchanged (day : Day) (plan : List (List ℕ)) (u v minute : ℕ) : Type 0 where
  pub naming : IsNaming day plan (exchanged_plan day u v minute plan)
  pub first : legs_of_unit day (exchanged_plan day u v minute plan) u
      ≡ legs_before minute (legs_of_unit day plan u) ++ legs_from minute (legs_of_unit day plan v)
  pub second : legs_of_unit day (exchanged_plan day u v minute plan) v
      ≡ legs_before minute (legs_of_unit day plan v) ++ legs_from minute (legs_of_unit day plan u)
  pub others : (w : ℕ) → w ≢ u → w ≢ v
      → legs_of_unit day (exchanged_plan day u v minute plan) w ≡ legs_of_unit day plan w

-- two units of one type that stand ready in one yard may exchange all that leaves from then on
abbrev pub ExchangedPlansRun : Type 0
ExchangedPlansRun = (day : Day) (plan : List (List ℕ)) (u v s minute : ℕ)
    → IsDay day → AreLinks day → IsStocked day → Runs day plan
    → u < unit_count day → v < unit_count day → u ≢ v → type_of day u ≡ type_of day v
    → StandsReady day plan u s minute → StandsReady day plan v s minute
    → RunsExchanged day plan u v minute
