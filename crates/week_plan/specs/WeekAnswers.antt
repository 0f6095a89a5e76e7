-- What is promised of the answer to a week.
use Rattle.std.specs.Prelude.{ℕ, ◌≡◌, List, [], ℤ, pos, false, IsTrue, MatchOption, Option}
use Rattle.std.specs.Prelude.{◌-◌, None, Some, option_and_then, slice_get, unwrap_or}
use Rattle.timetable.specs.Day.{Day}
use Rattle.answer_text.specs.Limits.{has_plan}
use Rattle.answer_check.specs.Headline.{Says}
use Rattle.week_units.specs.declared.refusal.WeekRefusal.{WeekRefusal}
use Rattle.week_units.specs.declared.refusal.WeekRefusal.TheVariants.{NoMemory}
use Rattle.week_units.specs.Names.{AreNamesDayByDay, each_by_name}
use Rattle.week_units.specs.WeekPlans.{NoWeekPlanRuns, WeekPlansCostAtLeast, WeekRuns, week_cost, week_units}
use Rattle.week_plan.specs.declared.answers.Week.{Week}
use Rattle.week_plan.specs.DayAnswers.{AreDayAnswers, plans_in}
use Rattle.week_plan.specs.Heads.{head_of}

-- the fault of days that is said, and none where memory ran out
abbrev pub fault_said : WeekRefusal → Option WeekRefusal
fault_said NoMemory = None
fault_said why = Some why

-- the names of a day, counted from 1
abbrev pub names_on : Option (List (List ℕ)) → ℕ → Option (List ℕ)
names_on named day = option_and_then (λ days. slice_get days (day - 1)) named

-- a week plan that runs, at this cost
pub record IsWeekPlanAtCost (days : List Day) (plans : List (List (List ℕ))) (cost : ℤ) : Type 0 where
  pub does_run : WeekRuns days plans
  pub costs : cost ≡ pos (week_cost days plans)

-- the plans of the days as one plan of the week's units
abbrev pub week_plan_of : Week → List (List (List ℕ))
week_plan_of week = each_by_name (unwrap_or week.named []) (plans_in week.days)

-- The promise, where so many branchings were granted for each day.
pub record IsWeekAnswer (days : List Day) (grant : ℕ) (week : Week) : Type 0 where
  -- what the head says is true of all week plans, and of that of the days' plans, by name
  pub holds : Says (IsWeekPlanAtCost days (week_plan_of week)) (WeekPlansCostAtLeast days) (NoWeekPlanRuns days)
      week.head
  -- each day has its answer, up to the first on which no plan runs
  pub answers : AreDayAnswers grant days week.days
  -- the head is what theirs say together
  pub head : week.head ≡ head_of week.days
  -- units are named exactly where there is a plan, on every day
  pub named : MatchOption week.named (has_plan week.head ≡ false)
      (λ names. IsTrue (has_plan week.head) × AreNamesDayByDay (week_units days) days (plans_in week.days) names)
