-- What an answer says of the plans whose picks lie in a region, under changes: the headline's truths for a day of which
-- some trips keep their compositions, or cost more with others.
use Rattle.std.specs.Prelude.{ℕ, ◌≡◌, ◌+◌, ◌↔◌, List, [], Bool, ℤ, pos}
use Rattle.timetable.specs.Accepted.{IsSoundDay}
use Rattle.timetable.specs.Cost.{plan_cost}
use Rattle.timetable.specs.Day.{Day}
use Rattle.branch_tree.specs.Claims.{IsConcluded}
use Rattle.branch_tree.specs.Regions.{root_of}
use Rattle.price_bound.specs.declared.changes.Change.{Change}
use Rattle.price_bound.specs.ChangedDays.{added_cost, changed_day, changed_meanings}
use Rattle.price_bound.specs.PlanBounds.{NoPlanRunsIn, PlansInCostAtLeast, RunsIn}
use Rattle.rules.specs.declared.heads.Head.{Head}
use Rattle.answer_check.specs.Headline.{IsTrueOf, Says}
use Rattle.answer_check.specs.Validity.{HasPicks, conclusion_of}

-- the runs are a plan that runs by these picks, which lie in the region, and this is its cost with what the changes add
pub record IsPlanWithin (day : Day) (changes : List Change) (region : List (List Bool)) (runs : List (List ℕ))
    (picks : List ℕ) (cost : ℤ) : Type 0 where
  pub does_run : RunsIn day region runs picks
  pub costs : cost ≡ pos (plan_cost day runs + added_cost changes picks)

-- what an answer says is true of the plans that run by picks in the region, where these are its runs and their picks
abbrev pub IsTrueIn : Day → List Change → List (List Bool) → Head → List (List ℕ) → List ℕ → Type 0
IsTrueIn day changes region head runs picks =
    Says (IsPlanWithin day changes region runs picks) (PlansInCostAtLeast day changes region) (NoPlanRunsIn day region)
    head

-- What is concluded of all solutions in a region is true of these plans.
abbrev pub ConcludedIsTrueIn : Type 0
ConcludedIsTrueIn = (day : Day) (changes : List Change) (region : List (List Bool)) (head : Head)
    (runs : List (List ℕ)) (picks : List ℕ) → HasPicks day head runs picks →
    IsConcluded (changed_meanings (changed_day day changes)) region (conclusion_of head picks) →
    IsTrueIn day changes region head runs picks

-- In the region of all admissible compositions, where nothing is changed, it is what is true of the day.
abbrev pub TrueInRootsIsTrueOfDays : Type 0
TrueInRootsIsTrueOfDays = (day : Day) (head : Head) (runs : List (List ℕ)) (picks : List ℕ) → IsSoundDay day →
    HasPicks day head runs picks → IsTrueIn day [] (root_of day) head runs picks ↔ IsTrueOf day head runs
