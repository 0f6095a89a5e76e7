-- Which unit of the week each unit of a day is.
use Rattle.std.specs.Prelude.{ℕ, ◌≡◌, ◌<◌, List, [], ◌∷◌, length, ⊤}
use Rattle.timetable.specs.Day.{Day, Units, stock_units, unit_count}
use Rattle.timetable.specs.Lists.{of_entry}
use Rattle.timetable.specs.Renumbering.{IsRenumbering, before_unit, renumbered}
use Rattle.inventory.specs.ServingLaws.{units_after}

-- the number that a list has for a unit
abbrev pub name_in : List ℕ → ℕ → ℕ
name_in names u = of_entry (λ v. v) names u 0

-- The names of a day's units, where the units of the week stand so as the day begins.
pub record AreNames (units : Units) (day : Day) (names : List ℕ) : Type 0 where
  -- each unit of the day has one
  pub each : length names ≡ unit_count day
  -- no two have the same and none is left over; each is the number of a unit of the week that is of its type, and
  -- stands where it is at home
  pub renumbers : IsRenumbering (stock_units day) units (name_in names)
  -- as many units of the week of this type stand at this station with smaller numbers as units of the day do: so the
  -- k-th unit of a type at a station has the number of the k-th unit of the week there, both by rising number
  pub kth : (u : ℕ) → u < unit_count day → before_unit units (name_in names u) ≡ before_unit (stock_units day) u

-- a plan of a day's own units, as a plan of the week's
abbrev pub by_name : List ℕ → List (List ℕ) → List (List ℕ)
by_name names plan = renumbered (name_in names) plan

abbrev pub each_by_name : List (List ℕ) → List (List (List ℕ)) → List (List (List ℕ))
each_by_name [] plans = []
each_by_name (names ∷ rest) [] = []
each_by_name (names ∷ rest) (plan ∷ plans) = by_name names plan ∷ each_by_name rest plans

-- The names of each day, one after another: on each later day the units of the week stand where the plan of the day
-- before, by name, leaves them.
abbrev pub AreNamesDayByDay : Units → List Day → List (List (List ℕ)) → List (List ℕ) → Type 0
AreNamesDayByDay units [] plans [] = ⊤
AreNamesDayByDay units [] plans (names ∷ rest) = ⊥
AreNamesDayByDay units (day ∷ days) [] names = ⊥
AreNamesDayByDay units (day ∷ days) (plan ∷ plans) [] = ⊥
AreNamesDayByDay units (day ∷ days) (plan ∷ plans) (names ∷ rest) =
    AreNames units day names × AreNamesDayByDay (units_after units day (by_name names plan)) days plans rest
