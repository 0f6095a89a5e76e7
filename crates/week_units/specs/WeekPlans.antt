-- Week plans: a plan for each day of a week, of the units that the first day has. On each later day a unit stands at
-- first where the plan of the day before leaves it. When a plan of a day runs with given units is said in `RunsOf`.
use Rattle.std.specs.Prelude.{ℕ, ◌+◌, List, [], ◌∷◌, ℤ, pos, ◌≤ℤ◌, ⊤}
use Rattle.timetable.specs.Cost.{plan_cost_of}
use Rattle.timetable.specs.Day.{Day, Units, stock_units}
use Rattle.timetable.specs.Running.{RunsOf}
use Rattle.inventory.specs.ServingLaws.{units_after}

-- the units of a week: those of the stock of its first day, and none where it has no day
abbrev pub week_units : List Day → Units
week_units [] = record { count = 0; unit_type = λ u. 0; home = λ u. 0 }
week_units (day ∷ days) = stock_units day

-- each plan runs on its day: the first with these units, and each later one with the units as the plan before it leaves
-- them
abbrev pub RunDayByDay : Units → List Day → List (List (List ℕ)) → Type 0
RunDayByDay units [] [] = ⊤
RunDayByDay units [] (plan ∷ plans) = ⊥
RunDayByDay units (day ∷ days) [] = ⊥
RunDayByDay units (day ∷ days) (plan ∷ plans) =
    RunsOf units day plan × RunDayByDay (units_after units day plan) days plans

-- A week plan that runs.
abbrev pub WeekRuns : List Day → List (List (List ℕ)) → Type 0
WeekRuns days plans = RunDayByDay (week_units days) days plans

-- what plans of these units cost on their days together
abbrev pub cost_day_by_day : Units → List Day → List (List (List ℕ)) → ℕ
cost_day_by_day units [] plans = 0
cost_day_by_day units (day ∷ days) [] = 0
cost_day_by_day units (day ∷ days) (plan ∷ plans) = plan_cost_of units day plan + cost_day_by_day units days plans

-- What a week plan costs.
abbrev pub week_cost : List Day → List (List (List ℕ)) → ℕ
week_cost days plans = cost_day_by_day (week_units days) days plans

-- every week plan that runs costs at least so much
abbrev pub WeekPlansCostAtLeast : List Day → ℤ → Type 0
WeekPlansCostAtLeast days bound =
    (plans : List (List (List ℕ))) → WeekRuns days plans → bound ≤ℤ pos (week_cost days plans)

-- no week plan runs
abbrev pub NoWeekPlanRuns : List Day → Type 0
NoWeekPlanRuns days = (plans : List (List (List ℕ))) → WeekRuns days plans → ⊥
