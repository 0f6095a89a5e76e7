-- What a bound of all solutions says of plans of named units.
use Rattle.std.specs.Prelude.{ℕ, ◌+◌, ◌↔◌, List, Bool, IsTrue, ℤ, pos, ◌≤ℤ◌}
use Rattle.timetable.specs.Accepted.{IsSoundDay}
use Rattle.timetable.specs.Cost.{plan_cost, PlansCostAtLeast, NoPlanRuns}
use Rattle.timetable.specs.Day.{Day}
use Rattle.timetable.specs.Picks.{RunsByPicks}
use Rattle.timetable.specs.Running.{Runs}
use Rattle.branch_tree.specs.declared.multipliers.Entry.{Entry}
use Rattle.branch_tree.specs.declared.relaxation.Weight.TheVariants.{Cost}
use Rattle.branch_tree.specs.Claims.{CostsAtLeast, HasNoSolution}
use Rattle.branch_tree.specs.Meanings.{DoFitFor, priced}
use Rattle.branch_tree.specs.Regions.{are_in, root_of}
use Rattle.price_bound.specs.declared.changes.Change.{Change}
use Rattle.price_bound.specs.ChangedDays.{added_cost, changed_day, changed_meanings}
use Rattle.price_bound.specs.DayMeanings.{meanings_of}

-- Every plan that runs has picks.
abbrev pub PlansHavePicks : Type 0
PlansHavePicks = (day : Day) (plan : List (List ℕ)) → Runs day plan → (picks : List ℕ) × RunsByPicks day plan picks

-- They lie in the region of the day.
abbrev pub PlansLieInRoots : Type 0
PlansLieInRoots = (day : Day) (plan : List (List ℕ)) (picks : List ℕ) → IsSoundDay day → RunsByPicks day plan picks →
    IsTrue (are_in picks (root_of day))

-- Weak duality: under multipliers that fit, the picks of a plan that runs are priced at its cost or lower.
abbrev pub PlansArePricedLow : Type 0
PlansArePricedLow = (day : Day) (plan : List (List ℕ)) (picks : List ℕ) (multipliers : List Entry) →
    IsSoundDay day → RunsByPicks day plan picks → DoFitFor (meanings_of day) multipliers →
    priced (meanings_of day) multipliers Cost picks ≤ℤ pos (plan_cost day plan)

-- Every solution in the region of a day costs at least so much exactly where every plan that runs does.
abbrev pub SolutionsBoundPlans : Type 0
SolutionsBoundPlans = (day : Day) (bound : ℤ) → IsSoundDay day →
    CostsAtLeast (meanings_of day) (root_of day) bound ↔ PlansCostAtLeast day bound

-- The region of a day has no solution exactly where no plan runs.
abbrev pub NoSolutionsNoPlans : Type 0
NoSolutionsNoPlans = (day : Day) → IsSoundDay day → HasNoSolution (meanings_of day) (root_of day) ↔ NoPlanRuns day

-- ---- in any region, under changes

-- a plan runs by picks that lie in a region
pub record RunsIn (day : Day) (region : List (List Bool)) (plan : List (List ℕ)) (picks : List ℕ) : Type 0 where
  pub by_picks : RunsByPicks day plan picks
  pub inside : IsTrue (are_in picks region)

-- every plan that runs by picks in a region costs at least so much, with what changes add for its picks
abbrev pub PlansInCostAtLeast : Day → List Change → List (List Bool) → ℤ → Type 0
PlansInCostAtLeast day changes region bound = (plan : List (List ℕ)) (picks : List ℕ) →
    RunsIn day region plan picks → bound ≤ℤ pos (plan_cost day plan + added_cost changes picks)

-- no plan runs by picks in a region
abbrev pub NoPlanRunsIn : Day → List (List Bool) → Type 0
NoPlanRunsIn day region = (plan : List (List ℕ)) (picks : List ℕ) → RunsIn day region plan picks → ⊥

-- Weak duality under changes: the picks of a plan that runs are priced at its cost and what the changes add for them,
-- or lower.
abbrev pub ChangedPlansArePricedLow : Type 0
ChangedPlansArePricedLow = (day : Day) (changes : List Change) (plan : List (List ℕ)) (picks : List ℕ)
    (multipliers : List Entry) → IsSoundDay day → RunsByPicks day plan picks →
    DoFitFor (changed_meanings (changed_day day changes)) multipliers →
    priced (changed_meanings (changed_day day changes)) multipliers Cost picks
    ≤ℤ pos (plan_cost day plan + added_cost changes picks)

-- Every solution in a region costs at least so much under changes exactly where every plan that runs by picks in it
-- does.
abbrev pub ChangedSolutionsBoundPlans : Type 0
ChangedSolutionsBoundPlans = (day : Day) (changes : List Change) (region : List (List Bool)) (bound : ℤ) →
    CostsAtLeast (changed_meanings (changed_day day changes)) region bound
    ↔ PlansInCostAtLeast day changes region bound

-- Under changes too a region has no solution exactly where no plan runs by picks in it.
abbrev pub NoChangedSolutionsNoPlans : Type 0
NoChangedSolutionsNoPlans = (day : Day) (changes : List Change) (region : List (List Bool)) →
    HasNoSolution (changed_meanings (changed_day day changes)) region ↔ NoPlanRunsIn day region
