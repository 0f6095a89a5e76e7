-- What a search for a fleet has found, where so many splits, and so many branchings of each tree, are granted.
use Rattle.std.specs.Prelude.{ℕ, ◌≡◌, ◌+◌, ◌*◌, ◌≤◌, ◌↔◌, ◌⊎◌, List, [], ◌∷◌, ◌++◌, length, All, Any, ℤ, pos}
use Rattle.std.specs.Prelude.{◌+ℤ◌, ◌≤ℤ◌, ◌<ℤ◌, Bool, Option, Some, None, MatchOption, IsSome}
use Rattle.rail_base.specs.declared.limits.TheConstants.{MAX_ROUNDS}
use Rattle.timetable.specs.Day.{Day}
use Rattle.branch_tree.specs.declared.tree.Node.{Node}
use Rattle.branch_tree.specs.Claims.{IsRaisedAt, IsNotEvident}
use Rattle.branch_tree.specs.Regions.{choices_of, root_of}
use Rattle.branch_tree.specs.Trees.{Covers, bound_of, branchings_of}
use Rattle.price_bound.specs.DayMeanings.{meanings_of}
use Rattle.answer_check.specs.ProvedTrees.{bound_said}
use Rattle.fleets.specs.Fleets.{own_fleet, with_fleet}
use Rattle.fleet_boxes.specs.declared.boxes.FleetBox.{FleetBox}
use Rattle.fleet_boxes.specs.declared.nodes.BoxNode.{BoxNode}
use Rattle.fleet_boxes.specs.declared.nodes.BoxNode.TheVariants.{Split, Bound, Nothing}
use Rattle.fleet_boxes.specs.Boxes.{box_of}
use Rattle.fleet_boxes.specs.Prices.{fleet_cost}
use Rattle.fleet_boxes.specs.ProvedBoxes.{boxes_below}
use Rattle.fleet_check.specs.declared.found.Fleet.{Fleet}
use Rattle.fleet_check.specs.declared.found.TheConstants.{MAX_BOX_NODES, MAX_SPLITS}
use Rattle.fleet_check.specs.Heads.{IsTrueOfFleets}
use Rattle.fleet_check.specs.Verdicts.{IsValid, price_said}
use Rattle.fleet_size.specs.declared.planning.Granted.{Granted}
use Rattle.fleet_size.specs.declared.planning.TheConstants.{MAX_DAY_BRANCHINGS}

-- as much as may be granted
pub record IsGranted (granted : Granted) : Type 0 where
  pub branchings : granted.branchings ≤ MAX_DAY_BRANCHINGS
  pub rounds : granted.rounds ≤ MAX_ROUNDS
  pub splits : granted.splits ≤ MAX_SPLITS

-- ---- leaves

-- a leaf with a bound, in its box
pub record BoundLeaf : Type 0 where
  pub fleets : FleetBox
  pub bound : ℤ
  pub tree : List Node

-- those of trees over boxes, in order
abbrev pub bound_leaves : ℕ → List FleetBox → List BoxNode → List BoundLeaf
bound_leaves types boxes [] = []
bound_leaves types [] (node ∷ nodes) = []
bound_leaves types (box ∷ boxes) (Split station unit_type at ∷ nodes) =
    bound_leaves types (boxes_below types box (Split station unit_type at) ++ boxes) nodes
bound_leaves types (box ∷ boxes) (Bound bound branchings tree ∷ nodes) =
    record { fleets = box; bound = bound.0; tree = tree } ∷ bound_leaves types boxes nodes
bound_leaves types (box ∷ boxes) (Nothing branchings tree ∷ nodes) = bound_leaves types boxes nodes

abbrev pub leaves_of : Day → Fleet → List BoundLeaf
leaves_of day fleet = bound_leaves (length day.types) (box_of day ∷ []) fleet.boxes

-- a leaf is open: there is no plan, or the leaf's value is below its price
abbrev pub IsOpenLeaf : List ℕ → Option ℤ → BoundLeaf → Type 0
IsOpenLeaf prices price leaf =
    MatchOption price (Unit {0}) (λ price. (leaf.bound +ℤ pos (fleet_cost prices leaf.fleets.least)) <ℤ price)

-- a leaf of one fleet alone, whose tree has all branchings that were granted; that its cuts are proper is known of each
-- leaf whose boxes are proved
pub record IsSpent (grant : ℕ) (leaf : BoundLeaf) : Type 0 where
  pub alone : leaf.fleets.least ≡ leaf.fleets.greatest
  pub branchings : branchings_of leaf.tree ≡ grant

-- there is a price, and it is so much at the most
abbrev pub IsPricedUpTo : Option ℤ → ℤ → Type 0
IsPricedUpTo price most = MatchOption price ⊥ (λ price. price ≤ℤ most)

-- of the first kind: there is a plan, which costs no more than the leaf's bound with what its greatest fleet costs
abbrev pub IsPlanned : List ℕ → Option ℤ → BoundLeaf → Type 0
IsPlanned prices price leaf = IsPricedUpTo price (leaf.bound +ℤ pos (fleet_cost prices leaf.fleets.greatest))

-- the day with the greatest fleet of a leaf's box, of which the leaf's tree is
abbrev pub day_of_leaf : Day → BoundLeaf → Day
day_of_leaf day leaf = with_fleet leaf.fleets.greatest day

-- a fact holds of each node of a leaf's tree, in its region
abbrev pub HoldsInTree : Day → BoundLeaf → (List (List Bool) → Node → Type 0) → Type 0
HoldsInTree day leaf P =
    Covers (meanings_of (day_of_leaf day leaf)).catalogue P (root_of (day_of_leaf day leaf)) leaf.tree

-- Of the second kind: all branchings that were granted are made, no bound is below that without multipliers, and no
-- cost leaf of least bound, which is that of the leaf, has an evident end. That the cuts are proper is known of each
-- leaf whose boxes are proved.
pub record IsSearched (day : Day) (grant : ℕ) (leaf : BoundLeaf) : Type 0 where
  pub branchings : branchings_of leaf.tree ≡ grant
  pub raised : HoldsInTree day leaf (IsRaisedAt (meanings_of (day_of_leaf day leaf)))
  pub not_evident : HoldsInTree day leaf (λ region node. bound_of node ≡ Some (record { 0 = leaf.bound })
      → IsNotEvident (meanings_of (day_of_leaf day leaf)) region)

-- ---- the promise

-- how many branchings the trees of leaves have in all
abbrev pub branchings_in : List BoxNode → ℕ
branchings_in [] = 0
branchings_in (Split station unit_type at ∷ nodes) = branchings_in nodes
branchings_in (Bound bound branchings tree ∷ nodes) = branchings + branchings_in nodes
branchings_in (Nothing branchings tree ∷ nodes) = branchings + branchings_in nodes

-- how many fleets are nowhere above one
abbrev pub fleets_below : List ℕ → ℕ
fleets_below [] = 1
fleets_below (units ∷ fleet) = (units + 1) * fleets_below fleet

-- What is promised of a fleet that was found.
pub record IsFleetFound (day : Day) (prices : List ℕ) (granted : Granted) (fleet : Fleet) : Type 0 where
  -- what it says is true of all fleets of the day and the plans that run with them
  pub holds : IsTrueOfFleets day prices fleet.head fleet.chosen
  -- its boxes prove that
  pub valid : IsValid day prices fleet
  -- no more splits were made than were granted
  pub splits : fleet.splits ≤ granted.splits
  -- it can be checked: it has no more nodes than a check takes
  pub nodes : length fleet.boxes ≤ MAX_BOX_NODES
  -- it is `bounded` exactly where a leaf is open, and either all splits that were granted are made, or each open leaf
  -- is of one fleet alone and its tree has all branchings that were granted
  pub ends : IsSome (bound_said fleet.head)
      ↔ (Any (IsOpenLeaf prices (price_said fleet.head)) (leaves_of day fleet)
      × ((fleet.splits ≡ granted.splits)
      ⊎ All (λ leaf. IsOpenLeaf prices (price_said fleet.head) leaf → IsSpent granted.branchings leaf)
      (leaves_of day fleet)))
  -- it never comes where as many splits are granted as the day has fleets, less one, and as many branchings as its
  -- trips have choices of compositions, less one
  pub enough : fleets_below (own_fleet day) ≤ granted.splits + 1 → choices_of (root_of day) ≤ granted.branchings + 1
      → bound_said fleet.head ≡ None
  -- each leaf with a bound is of one of two kinds
  pub kinds : All (λ leaf. IsPlanned prices (price_said fleet.head) leaf ⊎ IsSearched day granted.branchings leaf)
      (leaves_of day fleet)
