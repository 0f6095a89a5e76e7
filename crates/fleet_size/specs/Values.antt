-- What the leaves of a search are worth.
use Rattle.std.specs.Prelude.{ℕ, ◌≡◌, ◌<◌, ◌≤◌, ◌⊎◌, List, [], ◌∷◌, length, All, ℤ, pos, ◌+ℤ◌, int_lt, true}
use Rattle.std.specs.Prelude.{if◌then◌else◌, Option, Some, None, option_map}
use Rattle.rail_base.specs.declared.limits.TheConstants.{MAX_UNITS}
use Rattle.rail_base.specs.declared.numbers.Money.{Money}
use Rattle.branch_tree.specs.Trees.{IsLeastOf}
use Rattle.fleets.specs.Fleets.{IsNowhereAbove, fleet_size}
use Rattle.fleet_boxes.specs.declared.boxes.FleetBox.{FleetBox}
use Rattle.fleet_boxes.specs.declared.nodes.BoxNode.{BoxNode}
use Rattle.fleet_boxes.specs.declared.nodes.BoxNode.TheVariants.{Split, Bound, Nothing}
use Rattle.fleet_boxes.specs.Prices.{fleet_cost}
use Rattle.fleet_check.specs.declared.found.Fleet.{Fleet}
use Rattle.fleet_size.specs.declared.searching.Search.{Search}
use Rattle.fleet_size.specs.declared.slots.Slot.{Slot}
use Rattle.fleet_size.specs.Slots.{IsSmall, head_found, is_cheaper, nodes_in, price_in}

-- the value of a leaf with a bound in its box, and none at another node
abbrev pub value_in : List ℕ → FleetBox → BoxNode → Option Money
value_in prices box (Split station unit_type at) = None
value_in prices box (Bound bound branchings tree) =
    Some (record { 0 = bound.0 +ℤ pos (fleet_cost prices box.least) })
value_in prices box (Nothing branchings tree) = None

abbrev pub value_at : List ℕ → Slot → Option Money
value_at prices slot = value_in prices slot.fleets slot.node

-- those of slots, in order
abbrev pub and_values : Option Money → List ℤ → List ℤ
and_values None values = values
and_values (Some value) values = value.0 ∷ values

abbrev pub values_at : List ℕ → List Slot → List ℤ
values_at prices [] = []
values_at prices (slot ∷ slots) = and_values (value_at prices slot) (values_at prices slots)

-- there is a price for the units of its least fleet, and the sums keep within limits
pub record CanBeValued (prices : List ℕ) (slot : Slot) : Type 0 where
  pub priced : 0 < length slot.fleets.least → 0 < length prices
  pub few : fleet_size slot.fleets.least ≤ MAX_UNITS
  pub small : IsSmall slot.node
  pub ordered : IsNowhereAbove slot.fleets.least slot.fleets.greatest

-- where the leaf is open, its box has one fleet alone
abbrev pub IsDone : List ℕ → Option ℤ → Slot → Type 0
IsDone prices price slot = (value : Money) → value_at prices slot ≡ Some value → is_cheaper value.0 price ≡ true
    → slot.fleets.least ≡ slot.fleets.greatest

-- all splits that were granted are made, or no box may be split
abbrev pub HasEnded : List ℕ → ℕ → Search → Type 0
HasEnded prices splits search = (search.splits ≤ splits)
    × ((search.splits ≡ splits) ⊎ All (IsDone prices (price_in search.best)) search.slots.items)

-- the lower one of two values, where both are there, and else the one that is there
abbrev pub lower_of : Option Money → Option Money → Option Money
lower_of None value = value
lower_of (Some other) None = Some other
lower_of (Some other) (Some value) = if int_lt value.0 other.0 then Some value else Some other

-- what a search comes to
pub record IsConclusion (prices : List ℕ) (search : Search) (fleet : Fleet) : Type 0 where
  pub boxes : fleet.boxes ≡ nodes_in search.slots.items
  pub splits : fleet.splits ≡ search.splits
  pub chosen : fleet.chosen ≡ option_map (λ best. best.chosen) search.best
  pub least : Option Money
  pub is_least : IsLeastOf (values_at prices search.slots.items) least
  pub head : fleet.head ≡ head_found least (price_in search.best)
