-- What is true of the plans of some units is true of those of others, with their numbers.
use Rattle.std.proofs.Common.{ℕ, List, sym, subst, ◌∙◌, ap, ℤ, pos, ◌≤ℤ◌}
use Rattle.timetable.specs.Cost.{PlansOfUnitsCostAtLeast, NoPlanOfUnitsRuns}
use Rattle.timetable.specs.Day.{Day, Units}
use Rattle.timetable.specs.Renumbering.{IsRenumbering, RunsAlike, renumbered}
use Rattle.timetable.specs.Running.{RunsOf}
use Rattle.timetable.proofs.Renumbered.{renumbered_plans_run, units_are_renumbered_back}
use Rattle.answer_check.specs.Headline.{RunsAtCost}
use Rattle.answer_check.specs.Laws.{RenumberedIsTrue}
use Rattle.answer_check.proofs.Saying.{says_more}

module _ (units others : Units) (number : ℕ → ℕ) (day : Day) (is : IsRenumbering units others number) where
  plan_too : (runs : List (List ℕ)) (cost : ℤ) → RunsAtCost units day runs cost
      → RunsAtCost others day (renumbered number runs) cost
  plan_too runs cost plan =
      let alike : RunsAlike units others number day runs =
      renumbered_plans_run units others number day runs is plan.does_run.is_plan in
      record { does_run = alike.runs.0 plan.does_run; costs = plan.costs ∙ ap pos (sym alike.cost) }

  -- a plan of the others runs with the numbers of before
  back_alike : (plan : List (List ℕ)) → RunsOf others day plan → (back : ℕ → ℕ) × RunsAlike others units back day plan
  back_alike plan runs =
      let (back, by) = units_are_renumbered_back units others number is in
      (back, renumbered_plans_run others units back day plan by.renumbers runs.is_plan)

  bound_too : (bound : ℤ) → PlansOfUnitsCostAtLeast units day bound → PlansOfUnitsCostAtLeast others day bound
  bound_too bound all plan runs =
      let (back, alike) = back_alike plan runs in
      subst (λ (n : ℕ). bound ≤ℤ pos n) alike.cost (all (renumbered back plan) (alike.runs.0 runs))

  none_too : NoPlanOfUnitsRuns units day → NoPlanOfUnitsRuns others day
  none_too none plan runs =
      let (back, alike) = back_alike plan runs in none (renumbered back plan) (alike.runs.0 runs)

pub renumbered_is_true : RenumberedIsTrue
renumbered_is_true units others number day head runs is said =
    says_more (RunsAtCost units day runs) (RunsAtCost others day (renumbered number runs))
    (PlansOfUnitsCostAtLeast units day) (PlansOfUnitsCostAtLeast others day) (NoPlanOfUnitsRuns units day)
    (NoPlanOfUnitsRuns others day) head (λ some cost plan. plan_too units others number day is runs cost plan)
    (bound_too units others number day is) (none_too units others number day is) said
