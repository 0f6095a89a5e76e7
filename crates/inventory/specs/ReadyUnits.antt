-- Which units of a plan stand ready in the yard of a station, once the trips that leave at a minute have left.
use Rattle.std.specs.Prelude.{ℕ, ◌+◌, ◌≡◌, List, [], ◌∷◌, map, Bool, ◌==◌, ◌&&◌, nat_le, pos}
use Rattle.timetable.specs.Accepted.{IsDay, AreLinks, IsStocked}
use Rattle.timetable.specs.Day.{Day, to_of, home_of, type_of, types_of, unit_count, ready_at}
use Rattle.timetable.specs.Links.{given}
use Rattle.timetable.specs.Lists.{has, count_below}
use Rattle.timetable.specs.Running.{Runs}
use Rattle.inventory.specs.Counts.{count_at}
use Rattle.inventory.specs.NamedBefore.{duty_before}

-- a unit stands in the yard of a station and is ready at a minute, where these are the trips that it has run on, one
-- after another: it was given there by the last of them, and is ready by then; or it ran on none, and is at home there
abbrev pub stands_ready : Day → List (List ℕ) → ℕ → ℕ → ℕ → List ℕ → Bool
stands_ready day plan s minute u [] = home_of day u == s
stands_ready day plan s minute u (t ∷ []) =
    has u (given day plan t) && (to_of day t == s) && nat_le (ready_at day t) minute
stands_ready day plan s minute u (t ∷ next ∷ ts) = stands_ready day plan s minute u (next ∷ ts)

-- how many units of a type stand ready, after those of their trips that leave at the minute or earlier
abbrev pub ready_units : Day → List (List ℕ) → ℕ → ℕ → ℕ → ℕ
ready_units day plan s m minute =
    count_below (λ u. stands_ready day plan s minute u (duty_before day plan (minute + 1) u) && (type_of day u == m))
    (unit_count day)

-- the count of a yard in a plan that runs is the number of these units
abbrev pub YardsHoldReadyUnits : Type 0
YardsHoldReadyUnits = (day : Day) (plan : List (List ℕ)) (s m minute : ℕ)
    → IsDay day → AreLinks day → IsStocked day → Runs day plan
    → count_at day (map (types_of day) plan) s m minute ≡ pos (ready_units day plan s m minute)
