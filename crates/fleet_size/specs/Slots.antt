-- The nodes of a search, each with its box, and the best fleet so far.
use Rattle.std.specs.Prelude.{ℕ, ◌≡◌, ◌+◌, ◌<◌, ◌≤◌, ◌⊎◌, List, [], ◌∷◌, ◌++◌, length, map, slice_index, ℤ, pos, ◌+ℤ◌}
use Rattle.std.specs.Prelude.{int_lt, Bool, true, false, if◌then◌else◌, Option, Some, None, MatchOption, get_or}
use Rattle.rail_base.specs.declared.numbers.Money.{Money}
use Rattle.timetable.specs.Cost.{plan_cost}
use Rattle.timetable.specs.Day.{Day}
use Rattle.timetable.specs.Running.{Runs}
use Rattle.branch_tree.specs.declared.tree.Node.{Node}
use Rattle.branch_tree.specs.Regions.{choices_of, root_of}
use Rattle.rules.specs.declared.heads.Head.{Head}
use Rattle.rules.specs.declared.heads.Head.TheVariants.{Optimal, Infeasible, Bounded, BoundedPlan}
use Rattle.answer_text.specs.Limits.{IsAmount}
use Rattle.fleets.specs.Fleets.{IsFleetOf, IsNowhereAbove, with_fleet}
use Rattle.fleet_boxes.specs.declared.boxes.FleetBox.{FleetBox}
use Rattle.fleet_boxes.specs.declared.nodes.BoxNode.{BoxNode}
use Rattle.fleet_boxes.specs.declared.nodes.BoxNode.TheVariants.{Split, Bound, Nothing}
use Rattle.fleet_boxes.specs.Boxes.{box_of}
use Rattle.fleet_boxes.specs.Prices.{fleet_cost}
use Rattle.fleet_boxes.specs.ProvedBoxes.{IsProvedAt, boxes_below}
use Rattle.fleet_check.specs.Chosen.{RunsAtPrice}
use Rattle.fleet_check.specs.Verdicts.{price_said, splits_in}
use Rattle.fleet_size.specs.declared.choosing.Next.{Next}
use Rattle.fleet_size.specs.declared.offers.Best.{Best}
use Rattle.fleet_size.specs.declared.searching.Search.{Search}
use Rattle.fleet_size.specs.declared.slots.Slot.{Slot}
use Rattle.fleet_size.specs.Found.{IsPlanned, IsPricedUpTo, IsSearched}

-- ---- the best

-- what it costs, if there is one
abbrev pub price_in : Option Best → Option ℤ
price_in None = None
price_in (Some best) = Some best.price.0

-- it runs with its fleet at its price
abbrev pub IsBest : Day → List ℕ → Option Best → Type 0
IsBest day prices None = Unit {0}
IsBest day prices (Some best) = RunsAtPrice day prices (Some best.chosen) best.price.0

-- a price is no higher than one before
abbrev pub IsNoDearer : Option ℤ → Option ℤ → Type 0
IsNoDearer before after = MatchOption before (Unit {0}) (IsPricedUpTo after)

-- whether a sum is below a price, or there is no price
abbrev pub is_cheaper : ℤ → Option ℤ → Bool
is_cheaper sum None = true
is_cheaper sum (Some price) = int_lt sum price

-- the better one of what is offered and the best
abbrev pub better_of : Best → Option Best → Option Best
better_of offered best = if is_cheaper offered.price.0 (price_in best) then Some offered else best

-- where an answer to the day of a fleet has a plan, a price is no higher than that plan's with the fleet
abbrev pub IsTaken : List ℕ → List ℕ → Head → Option ℤ → Type 0
IsTaken prices fleet head price =
    MatchOption (price_said head) (Unit {0}) (λ cost. IsPricedUpTo price (cost +ℤ pos (fleet_cost prices fleet)))

-- a plan that runs with a fleet of the day, at a cost
pub record IsOffer (day : Day) (fleet : List ℕ) (plan : List (List ℕ)) (cost : ℤ) : Type 0 where
  pub within : IsFleetOf day fleet
  pub runs : Runs (with_fleet fleet day) plan
  pub costs : cost ≡ pos (plan_cost (with_fleet fleet day) plan)
  pub amount : IsAmount cost

-- what is said by the least value of the leaves and the price of the best
abbrev pub head_found : Option Money → Option ℤ → Head
head_found None None = Infeasible
head_found (Some bound) None = Bounded bound
head_found None (Some price) = Optimal (record { 0 = price })
head_found (Some bound) (Some price) =
    if int_lt bound.0 price then BoundedPlan bound (record { 0 = price }) else Optimal (record { 0 = price })

-- ---- boxes and their nodes

-- a box of fleets of the day
pub record IsBoxOf (day : Day) (box : FleetBox) : Type 0 where
  pub ordered : IsNowhereAbove box.least box.greatest
  pub within : IsFleetOf day box.greatest

-- the leaf that says of a box what an answer says of the day with its greatest fleet
abbrev pub node_said : Head → ℕ → List Node → BoxNode
node_said (Optimal cost) branchings tree = Bound cost branchings tree
node_said Infeasible branchings tree = Nothing branchings tree
node_said (Bounded bound) branchings tree = Bound bound branchings tree
node_said (BoundedPlan bound cost) branchings tree = Bound bound branchings tree

-- a leaf with a bound is of one of the two kinds, and of the second only where more choices are left than were granted
abbrev pub IsOfKind : Day → List ℕ → ℕ → Option ℤ → FleetBox → BoxNode → Type 0
IsOfKind day prices grant price box (Split station unit_type at) = Unit {0}
IsOfKind day prices grant price box (Bound bound branchings tree) =
    IsPlanned prices price (record { fleets = box; bound = bound.0; tree = tree })
    ⊎ (IsSearched day grant (record { fleets = box; bound = bound.0; tree = tree })
    × (choices_of (root_of (with_fleet box.greatest day)) ≤ grant + 1 → ⊥))
IsOfKind day prices grant price box (Nothing branchings tree) = Unit {0}

-- its bound keeps within the limit
abbrev pub IsSmall : BoxNode → Type 0
IsSmall (Split station unit_type at) = Unit {0}
IsSmall (Bound bound branchings tree) = IsAmount bound.0
IsSmall (Nothing branchings tree) = Unit {0}

-- what is known of a slot, where the best costs so much
pub record IsPlaced (day : Day) (prices : List ℕ) (grant : ℕ) (price : Option ℤ) (slot : Slot) : Type 0 where
  pub box : IsBoxOf day slot.fleets
  pub proved : IsProvedAt day slot.fleets slot.node
  pub kind : IsOfKind day prices grant price slot.fleets slot.node
  pub small : IsSmall slot.node

-- whether a node is a split
abbrev pub is_split : BoxNode → Bool
is_split (Split station unit_type at) = true
is_split (Bound bound branchings tree) = false
is_split (Nothing branchings tree) = false

-- a leaf that was made for a box, and the best then
pub record IsEvaluated (day : Day) (prices : List ℕ) (grant : ℕ) (fleets : FleetBox) (before after : Option Best)
    (slot : Slot) : Type 0 where
  pub box : slot.fleets ≡ fleets
  pub leaf : is_split slot.node ≡ false
  pub placed : IsPlaced day prices grant (price_in after) slot
  pub best : IsBest day prices after
  pub no_dearer : IsNoDearer (price_in before) (price_in after)

-- ---- all of them

-- the slots are whole trees in preorder, one over each of the boxes in turn, and a fact holds of each
abbrev pub AreSlots : (Slot → Type 0) → ℕ → List FleetBox → List Slot → Type 0
AreSlots P types [] [] = Unit {0}
AreSlots P types [] (slot ∷ slots) = ⊥
AreSlots P types (box ∷ boxes) [] = ⊥
AreSlots P types (box ∷ boxes) (slot ∷ slots) =
    (slot.fleets ≡ box) × P slot × AreSlots P types (boxes_below types box slot.node ++ boxes) slots

abbrev pub nodes_in : List Slot → List BoxNode
nodes_in slots = map (λ slot. slot.node) slots

-- what is known of a search
pub record IsSearch (day : Day) (prices : List ℕ) (grant : ℕ) (search : Search) : Type 0 where
  pub best : IsBest day prices search.best
  pub slots : AreSlots (IsPlaced day prices grant (price_in search.best)) (length day.types) (box_of day ∷ [])
      search.slots.items
  pub splits : search.splits ≡ splits_in (nodes_in search.slots.items)

-- ---- what is split next

-- the greatest fleet of a box has more units at the place than the least
pub record IsWideAt (box : FleetBox) (place : ℕ) : Type 0 where
  pub least_there : place < length box.least
  pub there : place < length box.greatest
  pub wide : slice_index box.least place < slice_index box.greatest place

-- the slot is that of a leaf whose box may be split at the place
pub record IsNext (slots : List Slot) (next : Next) : Type 0 where
  pub within : next.slot < length slots
  pub leaf : (slot : Slot) → slot ≡ get_or slots next.slot slot → is_split slot.node ≡ false
  pub wide : (slot : Slot) → slot ≡ get_or slots next.slot slot → IsWideAt slot.fleets next.place
