-- What is concluded of all solutions in a region, under changes, is true of the plans whose picks lie in it; and in the
-- region of the day, where nothing is changed, it is what is true of the day.
use Rattle.std.proofs.Common.{ℕ, ◌+◌, List, [], Bool, IsTrue, sym, subst, ◌∙◌, ap, ℤ, pos, ◌≤ℤ◌}
use Rattle.timetable.specs.Accepted.{IsSoundDay}
use Rattle.timetable.specs.Cost.{cost_of, plan_cost, PlansCostAtLeast, NoPlanRuns}
use Rattle.timetable.specs.Day.{Day, stock_units}
use Rattle.timetable.specs.Picks.{RunsByPicks}
use Rattle.branch_tree.specs.Claims.{CostsAtLeast, HasNoSolution, IsConcluded, IsPlanIn}
use Rattle.branch_tree.specs.Regions.{root_of}
use Rattle.price_bound.specs.declared.changes.Change.{Change}
use Rattle.price_bound.specs.ChangedDays.{added_cost, changed_day, changed_meanings}
use Rattle.price_bound.specs.PlanBounds.{NoPlanRunsIn, PlansInCostAtLeast, RunsIn}
use Rattle.price_bound.proofs.ChangedPlans.{changed_solutions_bound_plans, no_changed_solutions_no_plans}
use Rattle.price_bound.proofs.Planned.{plans_have_picks, plans_lie_in_roots}
use Rattle.rules.specs.declared.heads.Head.{Head}
use Rattle.answer_text.specs.Limits.{has_plan}
use Rattle.answer_check.specs.Headline.{RunsAtCost, IsTrueOf}
use Rattle.answer_check.specs.RegionTruths.{ConcludedIsTrueIn, IsPlanWithin, IsTrueIn, TrueInRootsIsTrueOfDays}
use Rattle.answer_check.specs.Validity.{HasPicks, conclusion_of}
use Rattle.answer_check.proofs.Saying.{concluded_says, says_more}
use Rattle.answer_check.proofs.Unchanged.{nothing_added}

module _ (day : Day) (changes : List Change) (region : List (List Bool)) (runs : List (List ℕ)) (picks : List ℕ) where
  is_plan : (cost : ℤ) → RunsByPicks day runs picks
      → IsPlanIn (changed_meanings (changed_day day changes)) region (record { cost = cost; picks = picks })
      → IsPlanWithin day changes region runs picks cost
  is_plan cost by plan = record {
    does_run = record { by_picks = by; inside = plan.inside };
    costs = sym plan.cost
        ∙ ap (λ (lists : List (List ℕ)). pos (cost_of day lists + added_cost changes picks)) by.types;
  }

  holds : (head : Head) → HasPicks day head runs picks
      → IsConcluded (changed_meanings (changed_day day changes)) region (conclusion_of head picks)
      → IsTrueIn day changes region head runs picks
  holds head planned concluded =
      says_more (λ cost. IsPlanIn (changed_meanings (changed_day day changes)) region (record { cost = cost; picks = picks }))
      (IsPlanWithin day changes region runs picks) (CostsAtLeast (changed_meanings (changed_day day changes)) region)
      (PlansInCostAtLeast day changes region) (HasNoSolution (changed_meanings (changed_day day changes)) region)
      (NoPlanRunsIn day region) head
      (λ some cost plan. is_plan cost (planned some) plan)
      (λ bound all. (changed_solutions_bound_plans day changes region bound).0 all)
      (λ none. (no_changed_solutions_no_plans day changes region).0 none)
      (concluded_says (changed_meanings (changed_day day changes)) region picks head concluded)

pub concluded_is_true_in : ConcludedIsTrueIn
concluded_is_true_in day changes region head runs picks planned concluded =
    holds day changes region runs picks head planned concluded

-- ---- the region of the day, where nothing is changed

module _ (day : Day) (sound : IsSoundDay day) where
  -- a plan that runs by picks runs by picks in the region of the day
  in_root : (plan : List (List ℕ)) (picks : List ℕ) → RunsByPicks day plan picks → RunsIn day (root_of day) plan picks
  in_root plan picks by = record { by_picks = by; inside = plans_lie_in_roots day plan picks sound by }

  bound_there : (bound : ℤ) → PlansInCostAtLeast day [] (root_of day) bound → PlansCostAtLeast day bound
  bound_there bound all plan runs =
      let (picks, by) = plans_have_picks day plan runs in
      subst (λ (n : ℕ). bound ≤ℤ pos n) (nothing_added (plan_cost day plan)) (all plan picks (in_root plan picks by))

  bound_back : (bound : ℤ) → PlansCostAtLeast day bound → PlansInCostAtLeast day [] (root_of day) bound
  bound_back bound all plan picks run =
      subst (λ (n : ℕ). bound ≤ℤ pos n) (sym (nothing_added (plan_cost day plan))) (all plan run.by_picks.runs)

  none_there : NoPlanRunsIn day (root_of day) → NoPlanRuns day
  none_there none plan runs =
      let (picks, by) = plans_have_picks day plan runs in none plan picks (in_root plan picks by)

  none_back : NoPlanRuns day → NoPlanRunsIn day (root_of day)
  none_back none plan picks run = none plan run.by_picks.runs

  module _ (head : Head) (runs : List (List ℕ)) (picks : List ℕ) (planned : HasPicks day head runs picks) where
    plan_there : (cost : ℤ) → IsPlanWithin day [] (root_of day) runs picks cost → RunsAtCost (stock_units day) day runs cost
    plan_there cost plan = record {
      does_run = plan.does_run.by_picks.runs;
      costs = plan.costs ∙ ap pos (nothing_added (plan_cost day runs));
    }

    plan_back : RunsByPicks day runs picks → (cost : ℤ) → RunsAtCost (stock_units day) day runs cost
        → IsPlanWithin day [] (root_of day) runs picks cost
    plan_back by cost plan = record {
      does_run = in_root runs picks by;
      costs = plan.costs ∙ ap pos (sym (nothing_added (plan_cost day runs)));
    }

    there : IsTrueIn day [] (root_of day) head runs picks → IsTrueOf day head runs
    there said =
        says_more (IsPlanWithin day [] (root_of day) runs picks) (RunsAtCost (stock_units day) day runs)
        (PlansInCostAtLeast day [] (root_of day)) (PlansCostAtLeast day) (NoPlanRunsIn day (root_of day)) (NoPlanRuns day)
        head (λ some cost plan. plan_there cost plan) bound_there none_there said

    back : IsTrueOf day head runs → IsTrueIn day [] (root_of day) head runs picks
    back said =
        says_more (RunsAtCost (stock_units day) day runs) (IsPlanWithin day [] (root_of day) runs picks)
        (PlansCostAtLeast day) (PlansInCostAtLeast day [] (root_of day)) (NoPlanRuns day) (NoPlanRunsIn day (root_of day))
        head (λ some cost plan. plan_back (planned some) cost plan) bound_back none_back said

pub true_in_roots : TrueInRootsIsTrueOfDays
true_in_roots day head runs picks sound planned =
    (there day sound head runs picks planned, back day sound head runs picks planned)
