-- What is valid is true of all fleets of the day.
use Rattle.std.proofs.Common.{ℕ, List, Option}
use Rattle.timetable.specs.Accepted.{IsSoundDay}
use Rattle.timetable.specs.Day.{Day}
use Rattle.rules.specs.declared.heads.Head.{Head}
use Rattle.rules.specs.declared.heads.Head.TheVariants.{Optimal, Infeasible, Bounded, BoundedPlan}
use Rattle.fleet_boxes.specs.declared.nodes.BoxNode.{BoxNode}
use Rattle.fleet_boxes.specs.Laws.{DoBound}
use Rattle.fleet_boxes.specs.ProvedBoxes.{values_of}
use Rattle.fleet_boxes.proofs.Walking.{proved_boxes_bound}
use Rattle.fleet_check.specs.declared.found.Chosen.{Chosen}
use Rattle.fleet_check.specs.declared.found.Fleet.{Fleet}
use Rattle.fleet_check.specs.Heads.{DoesFollow, IsTrueOfFleets}
use Rattle.fleet_check.specs.Verdicts.{HasPlanSaid, IsValid, price_said}

says_true : (day : Day) (prices : List ℕ) (nodes : List BoxNode) (head : Head) (chosen : Option Chosen) → DoBound day prices nodes
    → HasPlanSaid day prices chosen (price_said head) → DoesFollow (values_of day prices nodes) head → IsTrueOfFleets day prices head chosen
says_true day prices nodes (Optimal cost) chosen bounds planned follows = (planned, bounds.bound cost.0 follows)
says_true day prices nodes Infeasible chosen bounds planned follows = bounds.none follows
says_true day prices nodes (Bounded bound) chosen bounds planned follows = bounds.bound bound.0 follows.all
says_true day prices nodes (BoundedPlan bound cost) chosen bounds planned follows = (planned, bounds.bound bound.0 follows.all)

pub valid_is_true : (day : Day) (prices : List ℕ) (fleet : Fleet) → IsSoundDay day → IsValid day prices fleet
    → IsTrueOfFleets day prices fleet.head fleet.chosen
valid_is_true day prices fleet sound valid =
    says_true day prices fleet.boxes fleet.head fleet.chosen (proved_boxes_bound day prices fleet.boxes sound valid.proved) valid.chosen valid.head
