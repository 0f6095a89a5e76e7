-- What an answer says of all plans of a day: that its runs are a plan that runs at its cost, that no plan costs
-- less than so much, or that none runs.
use Rattle.std.specs.Prelude.{ℕ, ◌≡◌, List, Bool, true, false, ℤ, pos}
use Rattle.rules.specs.declared.heads.Head.{Head}
use Rattle.rules.specs.declared.heads.Head.TheVariants.{Optimal, Infeasible, Bounded, BoundedPlan}
use Rattle.rules.specs.Cost.{plan_cost_of, PlansOfUnitsCostAtLeast, NoPlanOfUnitsRuns}
use Rattle.rules.specs.Day.{Day, Units, stock_units}
use Rattle.rules.specs.Running.{RunsOf}

-- whether an answer has a plan. Its runs are the plan as it writes it: the units of each trip, in order
abbrev pub has_plan : Head → Bool
has_plan (Optimal cost) = true
has_plan Infeasible = false
has_plan (Bounded bound) = false
has_plan (BoundedPlan bound cost) = true

-- What each head says, by three statements that the caller gives: that the runs are a plan that runs at this cost, that
-- no plan costs less than so much, and that no plan runs. Costs are written as numbers that may be below zero, since
-- bounds may.
abbrev pub Says : (ℤ → Type 0) → (ℤ → Type 0) → Type 0 → Head → Type 0
Says RunsAt CostAtLeast NoneRuns (Optimal cost) = RunsAt cost.0 × CostAtLeast cost.0
Says RunsAt CostAtLeast NoneRuns Infeasible = NoneRuns
Says RunsAt CostAtLeast NoneRuns (Bounded bound) = CostAtLeast bound.0
Says RunsAt CostAtLeast NoneRuns (BoundedPlan bound cost) = RunsAt cost.0 × CostAtLeast bound.0

-- the runs are a plan that runs with these units, at this cost
pub record RunsAtCost (units : Units) (day : Day) (runs : List (List ℕ)) (cost : ℤ) : Type 0 where
  pub does_run : RunsOf units day runs
  pub costs : cost ≡ pos (plan_cost_of units day runs)

-- What an answer says is true of the plans that run with these units, where these are its runs: of `optimal` that the
-- runs are one of them at its cost, and none costs less; of `infeasible` that there is none; of `bounded` that none
-- costs less than its bound, and of `bounded` with a plan that the runs are one of them at its cost, too. Nothing is
-- said of the runs where an answer has no plan; `bounded` says neither that a plan runs nor that its bound is near.
abbrev pub IsTrueOfUnits : Units → Day → Head → List (List ℕ) → Type 0
IsTrueOfUnits units day head runs =
    Says (RunsAtCost units day runs) (PlansOfUnitsCostAtLeast units day) (NoPlanOfUnitsRuns units day) head

-- so of the day: of the plans that run with the units of its stock
abbrev pub IsTrueOf : Day → Head → List (List ℕ) → Type 0
IsTrueOf day = IsTrueOfUnits (stock_units day) day
