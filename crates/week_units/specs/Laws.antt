-- What ties week plans to the plans of single days, and when a trip is late.
use Rattle.std.specs.Prelude.{ℕ, ◌+◌, ◌<◌, ◌≤◌, ◌≡◌, ◌↔◌, List, [], ◌∷◌, length}
use Rattle.std.specs.List.{AllZip}
use Rattle.timetable.specs.Cost.{plan_cost, plan_cost_of}
use Rattle.timetable.specs.Day.{Day, Units, leaves, ready_at}
use Rattle.timetable.specs.Running.{Runs}
use Rattle.week_units.specs.Names.{AreNamesDayByDay, each_by_name}
use Rattle.week_units.specs.WeekPlans.{WeekRuns, week_cost, week_units}
use Rattle.week_units.specs.declared.refusal.WeekRefusal.{WeekRefusal}
use Rattle.week_units.specs.Weeks.{AreWeek, IsFirstFault, IsLate}

-- ---- from the days to the week

-- what plans of the days' own units cost together
abbrev pub cost_of_days : List Day → List (List (List ℕ)) → ℕ
cost_of_days [] plans = 0
cost_of_days (day ∷ days) [] = 0
cost_of_days (day ∷ days) (plan ∷ plans) = plan_cost day plan + cost_of_days days plans

-- Plans of the days, by name, are a week plan that runs, and costs what they cost together.
pub record RunByName (days : List Day) (plans : List (List (List ℕ))) (names : List (List ℕ)) : Type 0 where
  pub runs : WeekRuns days (each_by_name names plans)
  pub cost : week_cost days (each_by_name names plans) ≡ cost_of_days days plans

abbrev pub NamedPlansMakeWeeks : Type 0
NamedPlansMakeWeeks = (days : List Day) (plans : List (List (List ℕ))) (names : List (List ℕ)) → AreWeek days
    → AllZip Runs days plans → AreNamesDayByDay (week_units days) days plans names → RunByName days plans names

-- ---- from the week to the days

-- a plan of a day's own units runs, and costs what a plan of other units costs
pub record HasDayPlan (units : Units) (day : Day) (plan : List (List ℕ)) : Type 0 where
  pub own : List (List ℕ)
  pub does_run : Runs day own
  pub cost : plan_cost day own ≡ plan_cost_of units day plan

-- Each day of a week plan that runs is, with units renumbered, a plan that runs on this day and costs the same.
abbrev pub WeeksMakeDayPlans : Type 0
WeeksMakeDayPlans = (days : List Day) (plans : List (List (List ℕ))) → AreWeek days → WeekRuns days plans
    → AllZip (HasDayPlan (week_units days)) days plans

-- ---- which days make a week

-- A trip of the day before is in time exactly where its reallocation has ended at the departure of each trip of the
-- day, 1,440 minutes being from the start of a day to that of the next; and, where the day has no trip, as it begins.
pub record IsInTime (before day : Day) (t : ℕ) : Type 0 where
  pub for_each : (b : ℕ) → b < length day.trips → ready_at before t ≤ 1440 + leaves day b
  pub at_start : length day.trips ≡ 0 → ready_at before t ≤ 1440

abbrev pub LateTripsAreReadyTooLate : Type 0
LateTripsAreReadyTooLate = (before day : Day) (t : ℕ) → (¬ IsLate before day t) ↔ IsInTime before day t

-- days that make a week have no first reason why they make none
abbrev pub WeeksHaveNoFault : Type 0
WeeksHaveNoFault = (days : List Day) (why : WeekRefusal) → AreWeek days → ¬ IsFirstFault days why
