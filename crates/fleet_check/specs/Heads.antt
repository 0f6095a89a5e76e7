-- What is said of all fleets of a day.
use Rattle.std.specs.Prelude.{ℕ, ◌≡◌, ℤ, ◌≤ℤ◌, List, [], All, Option}
use Rattle.timetable.specs.Day.{Day}
use Rattle.branch_tree.specs.Trees.{IsLeast}
use Rattle.rules.specs.declared.heads.Head.{Head}
use Rattle.rules.specs.declared.heads.Head.TheVariants.{Optimal, Infeasible, Bounded, BoundedPlan}
use Rattle.answer_check.specs.Headline.{Says}
use Rattle.fleet_boxes.specs.ProvedBoxes.{FleetsCostAtLeast, NoFleetRuns}
use Rattle.fleet_check.specs.declared.found.Chosen.{Chosen}
use Rattle.fleet_check.specs.Chosen.{RunsAtPrice}

-- what a head says is true of all fleets of the day and the plans that run with them
abbrev pub IsTrueOfFleets : Day → List ℕ → Head → Option Chosen → Type 0
IsTrueOfFleets day prices head chosen =
    Says (RunsAtPrice day prices chosen) (FleetsCostAtLeast day prices) (NoFleetRuns day) head

-- what a head says follows from the values of the leaves: no leaf is open where it is optimal, none has a bound where
-- it is infeasible, and a bound is the least of the values
abbrev pub DoesFollow : List ℤ → Head → Type 0
DoesFollow values (Optimal cost) = All (λ value. cost.0 ≤ℤ value) values
DoesFollow values Infeasible = values ≡ []
DoesFollow values (Bounded bound) = IsLeast values bound.0
DoesFollow values (BoundedPlan bound cost) = IsLeast values bound.0
