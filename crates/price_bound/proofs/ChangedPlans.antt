-- What is said of solutions under changes is said of plans, with what the changes add for their picks.
use Rattle.std.proofs.Common.{ℕ, ◌+◌, List, sym, ap, subst, pos, ◌≤ℤ◌}
use Rattle.timetable.specs.Cost.{cost_of}
use Rattle.timetable.specs.Day.{Day}
use Rattle.timetable.specs.Picks.{IsSolution, RunsByPicks}
use Rattle.branch_tree.specs.declared.relaxation.Weight.TheVariants.{Cost}
use Rattle.branch_tree.specs.Claims.{CostsAtLeast, HasNoSolution}
use Rattle.branch_tree.specs.Meanings.{priced}
use Rattle.branch_tree.proofs.Duality.{solutions_are_priced_low}
use Rattle.price_bound.specs.ChangedDays.{added_cost, changed_day, changed_meanings}
use Rattle.price_bound.specs.PlanBounds.{ChangedPlansArePricedLow, ChangedSolutionsBoundPlans}
use Rattle.price_bound.specs.PlanBounds.{NoChangedSolutionsNoPlans, NoPlanRunsIn, PlansInCostAtLeast, RunsIn}
use Rattle.price_bound.proofs.ChangedRelaxation.{changed_relaxes}
use Rattle.price_bound.proofs.Planned.{solved_by}

pub changed_plans_are_priced_low : ChangedPlansArePricedLow
changed_plans_are_priced_low day changes plan picks multipliers accepted by fits =
    subst (λ (n : ℕ). priced (changed_meanings (changed_day day changes)) multipliers Cost picks ≤ℤ pos (n + added_cost changes picks))
    (ap (cost_of day) by.types)
    (solutions_are_priced_low (changed_meanings (changed_day day changes)) (changed_relaxes (changed_day day changes) accepted)
    picks multipliers (solved_by day plan picks by) fits).with_cost

-- the picks of a solution are those of the plan that it has
of_solution : (day : Day) (picks : List ℕ) (solves : IsSolution day picks) → RunsByPicks day solves.plan picks
of_solution day picks solves = record { runs = solves.runs; are_picks = solves.are_picks; types = sym solves.types }

pub changed_solutions_bound_plans : ChangedSolutionsBoundPlans
changed_solutions_bound_plans day changes region bound = (
  (λ (all : CostsAtLeast (changed_meanings (changed_day day changes)) region bound) plan picks (by : RunsIn day region plan picks).
      subst (λ (n : ℕ). bound ≤ℤ pos (n + added_cost changes picks)) (ap (cost_of day) by.by_picks.types)
      (all picks (solved_by day plan picks by.by_picks) by.inside)),
  (λ (all : PlansInCostAtLeast day changes region bound) picks (solves : IsSolution day picks) inside.
      subst (λ (n : ℕ). bound ≤ℤ pos (n + added_cost changes picks)) (ap (cost_of day) solves.types)
      (all solves.plan picks (record { by_picks = of_solution day picks solves; inside = inside }))),
)

pub no_changed_solutions_no_plans : NoChangedSolutionsNoPlans
no_changed_solutions_no_plans day changes region = (
  (λ (none : HasNoSolution (changed_meanings (changed_day day changes)) region) plan picks (by : RunsIn day region plan picks).
      none picks (solved_by day plan picks by.by_picks) by.inside),
  (λ (none : NoPlanRunsIn day region) picks (solves : IsSolution day picks) inside.
      none solves.plan picks (record { by_picks = of_solution day picks solves; inside = inside })),
)
