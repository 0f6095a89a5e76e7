-- Trees of boxes in preorder: after a split come the tree over its lower part, and then that over its upper part. What
-- is proved of each node, and what follows of all fleets.
use Rattle.std.specs.Prelude.{ℕ, ◌+◌, ◌*◌, ◌<◌, List, [], ◌∷◌, ◌++◌, length, ℤ, pos, ◌+ℤ◌, ◌≤ℤ◌}
use Rattle.timetable.specs.Cost.{plan_cost}
use Rattle.timetable.specs.Day.{Day}
use Rattle.timetable.specs.Running.{Runs}
use Rattle.branch_tree.specs.Claims.{IsProved, bounded, infeasible}
use Rattle.branch_tree.specs.Regions.{root_of}
use Rattle.price_bound.specs.DayMeanings.{meanings_of}
use Rattle.fleets.specs.Fleets.{IsFleetOf, with_fleet}
use Rattle.fleet_boxes.specs.declared.boxes.FleetBox.{FleetBox}
use Rattle.fleet_boxes.specs.declared.nodes.BoxNode.{BoxNode}
use Rattle.fleet_boxes.specs.declared.nodes.BoxNode.TheVariants.{Split, Bound, Nothing}
use Rattle.fleet_boxes.specs.Boxes.{IsParted, box_of, lower_part, upper_part}
use Rattle.fleet_boxes.specs.Prices.{fleet_cost}

-- ---- trees of boxes

-- the boxes below a node, where there are so many types: the two parts of a split, and none below a leaf
abbrev pub boxes_below : ℕ → FleetBox → BoxNode → List FleetBox
boxes_below types box (Split station unit_type at) =
    lower_part (station * types + unit_type) at box ∷ upper_part (station * types + unit_type) at box ∷ []
boxes_below types box leaf = []

-- The nodes are whole trees in preorder, one over each of the boxes in turn, and a fact holds of each node in its box.
abbrev pub AreTrees : (FleetBox → BoxNode → Type 0) → ℕ → List FleetBox → List BoxNode → Type 0
AreTrees P types [] [] = Unit {0}
AreTrees P types [] (node ∷ nodes) = ⊥
AreTrees P types (box ∷ boxes) [] = ⊥
AreTrees P types (box ∷ boxes) (node ∷ nodes) =
    P box node × AreTrees P types (boxes_below types box node ++ boxes) nodes

-- ---- what is proved of them

-- a split parts its box at a station and a type of the day
pub record IsSplit (day : Day) (box : FleetBox) (s m at : ℕ) : Type 0 where
  pub station : s < length day.stations
  pub unit_type : m < length day.types
  pub parted : IsParted box (s * length day.types + m) at

-- what is proved of a node in its box: a split parts it, and the tree of a leaf proves what the leaf says of the day
-- with the greatest fleet
abbrev pub IsProvedAt : Day → FleetBox → BoxNode → Type 0
IsProvedAt day box (Split station unit_type at) = IsSplit day box station unit_type at
IsProvedAt day box (Bound bound branchings tree) =
    IsProved (meanings_of (with_fleet box.greatest day)) (root_of (with_fleet box.greatest day)) (bounded bound.0)
    branchings tree
IsProvedAt day box (Nothing branchings tree) =
    IsProved (meanings_of (with_fleet box.greatest day)) (root_of (with_fleet box.greatest day)) infeasible branchings
    tree

-- Boxes that are proved: one whole tree over the box of the day, of which each node is proved.
abbrev pub AreProved : Day → List BoxNode → Type 0
AreProved day nodes = AreTrees (IsProvedAt day) (length day.types) (box_of day ∷ []) nodes

-- ---- what their leaves are worth

-- the values of the leaves with a bound, in order, of trees over boxes: the bound, with what the least fleet costs
abbrev pub values_in : ℕ → List ℕ → List FleetBox → List BoxNode → List ℤ
values_in types prices boxes [] = []
values_in types prices [] (node ∷ nodes) = []
values_in types prices (box ∷ boxes) (Split station unit_type at ∷ nodes) =
    values_in types prices (boxes_below types box (Split station unit_type at) ++ boxes) nodes
values_in types prices (box ∷ boxes) (Bound bound branchings tree ∷ nodes) =
    (bound.0 +ℤ pos (fleet_cost prices box.least)) ∷ values_in types prices boxes nodes
values_in types prices (box ∷ boxes) (Nothing branchings tree ∷ nodes) = values_in types prices boxes nodes

abbrev pub values_of : Day → List ℕ → List BoxNode → List ℤ
values_of day prices nodes = values_in (length day.types) prices (box_of day ∷ []) nodes

-- ---- all fleets

-- what a plan with a fleet costs together with the fleet's units
abbrev pub price_of : Day → List ℕ → List ℕ → List (List ℕ) → ℕ
price_of day prices fleet plan = plan_cost (with_fleet fleet day) plan + fleet_cost prices fleet

-- no fleet of the day costs less with a plan that runs
abbrev pub FleetsCostAtLeast : Day → List ℕ → ℤ → Type 0
FleetsCostAtLeast day prices bound = (fleet : List ℕ) (plan : List (List ℕ)) → IsFleetOf day fleet
    → Runs (with_fleet fleet day) plan → bound ≤ℤ pos (price_of day prices fleet plan)

-- no fleet of the day has a plan that runs
abbrev pub NoFleetRuns : Day → Type 0
NoFleetRuns day = (fleet : List ℕ) (plan : List (List ℕ)) → IsFleetOf day fleet
    → Runs (with_fleet fleet day) plan → ⊥
