-- What is so of every disturbed day: the past can always be kept, and what is searched is all that goes on from it.
use Rattle.std.specs.Prelude.{ℕ, ◌≡◌, ◌+◌, List, IsTrue}
use Rattle.timetable.specs.Accepted.{IsSoundDay}
use Rattle.timetable.specs.Cost.{plan_cost}
use Rattle.timetable.specs.Picks.{IsSolution, RunsByPicks}
use Rattle.timetable.specs.Running.{Runs}
use Rattle.branch_tree.specs.Regions.{are_in}
use Rattle.price_bound.specs.ChangedDays.{added_cost}
use Rattle.price_bound.specs.PlanBounds.{RunsIn}
use Rattle.replan.specs.Disturbances.{Disturbed, GoesOn, IsDisturbance, later_day, price_of}
use Rattle.replan.specs.RestsOfDays.{changes_of, named_on, past_root}

-- both days are accepted, and the plan runs in the first
pub record IsUnderWay (disturbed : Disturbed) : Type 0 where
  pub given : IsDisturbance disturbed
  pub day : IsSoundDay disturbed.day
  pub later : IsSoundDay (later_day disturbed)
  pub runs : Runs disturbed.day disturbed.plan

-- the units that the rule names for picks make a plan that goes on from the past, and has their compositions
pub record KeepsPast (disturbed : Disturbed) (picks : List ℕ) : Type 0 where
  pub goes_on : GoesOn disturbed (named_on disturbed picks)
  pub by_picks : RunsByPicks (later_day disturbed) (named_on disturbed picks) picks

-- The past can be kept: for all picks in the root region that are a solution, units can be named so that each trip that
-- left before the minute keeps its units, and the plan goes on from the past.
abbrev pub PastsAreKept : Type 0
PastsAreKept = (disturbed : Disturbed) (picks : List ℕ) → IsUnderWay disturbed → IsSolution (later_day disturbed) picks
    → IsTrue (are_in picks (past_root disturbed)) → KeepsPast disturbed picks

-- every plan that goes on from the past runs by picks in the root region
abbrev pub GoingOnLiesInRoot : Type 0
GoingOnLiesInRoot = (disturbed : Disturbed) (plan : List (List ℕ)) → IsUnderWay disturbed → GoesOn disturbed plan
    → (picks : List ℕ) × RunsIn (later_day disturbed) (past_root disturbed) plan picks

-- The price of a plan that runs in the later day is its cost with what the changes add for its picks.
abbrev pub PricesAreChangedCosts : Type 0
PricesAreChangedCosts = (disturbed : Disturbed) (plan : List (List ℕ)) (picks : List ℕ) → IsUnderWay disturbed
    → RunsByPicks (later_day disturbed) plan picks
    → price_of disturbed plan ≡ plan_cost (later_day disturbed) plan + added_cost (changes_of disturbed) picks
