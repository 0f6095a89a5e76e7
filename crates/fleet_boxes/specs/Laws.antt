-- What is so of boxes of fleets and of trees of them.
use Rattle.std.specs.Prelude.{ℕ, ◌≡◌, ◌+◌, ◌*◌, ◌≤◌, ◌<◌, ◌↔◌, List, [], length, slice_index, set, replicate}
use Rattle.std.specs.Prelude.{ℤ, pos, ◌≤ℤ◌, All, Contains}
use Rattle.timetable.specs.Accepted.{IsSoundDay}
use Rattle.timetable.specs.Day.{Day}
use Rattle.timetable.specs.Running.{Runs}
use Rattle.fleets.specs.Fleets.{IsFleetOf, IsNowhereAbove, with_fleet}
use Rattle.fleet_boxes.specs.declared.boxes.FleetBox.{FleetBox}
use Rattle.fleet_boxes.specs.declared.nodes.BoxNode.{BoxNode}
use Rattle.fleet_boxes.specs.Boxes.{HasFleet, IsParted, box_of, lower_part, upper_part}
use Rattle.fleet_boxes.specs.Prices.{fleet_cost}
use Rattle.fleet_boxes.specs.ProvedBoxes.{AreProved, FleetsCostAtLeast, NoFleetRuns, price_of, values_of}

-- a fleet of a box is in one part or the other, by how many units it has at the place, and what is in a part is in the
-- box
pub record AreParts (box : FleetBox) (place at : ℕ) (fleet : List ℕ) : Type 0 where
  pub lower : HasFleet (lower_part place at box) fleet ↔ (HasFleet box fleet × (slice_index fleet place ≤ at))
  pub upper : HasFleet (upper_part place at box) fleet ↔ (HasFleet box fleet × (at < slice_index fleet place))

abbrev pub SplitsPart : Type 0
SplitsPart = (box : FleetBox) (place at : ℕ) (fleet : List ℕ) → IsParted box place at → AreParts box place at fleet

-- the box of a day has exactly the fleets of the day
abbrev pub BoxesHaveAllFleets : Type 0
BoxesHaveAllFleets = (day : Day) (fleet : List ℕ) → HasFleet (box_of day) fleet ↔ IsFleetOf day fleet

-- What fleets cost by the prices of types: nothing where no unit stands, and with one unit more, of a type at a
-- station, so much more as a unit of the type costs.
pub record IsCostOfUnits (prices : List ℕ) : Type 0 where
  pub none : (places : ℕ) → fleet_cost prices (replicate places 0) ≡ 0
  pub one_more : (fleet : List ℕ) (s m : ℕ) → m < length prices → s * length prices + m < length fleet
      → fleet_cost prices
      (set fleet (s * length prices + m) (slice_index fleet (s * length prices + m) + 1))
      ≡ fleet_cost prices fleet + slice_index prices m

abbrev pub FleetsCostTheirUnits : Type 0
FleetsCostTheirUnits = (prices : List ℕ) → IsCostOfUnits prices

abbrev pub LargerFleetsCostNoLess : Type 0
LargerFleetsCostNoLess = (prices small large : List ℕ) → IsNowhereAbove small large
    → fleet_cost prices small ≤ fleet_cost prices large

-- what proved boxes say of all fleets of a day
pub record DoBound (day : Day) (prices : List ℕ) (nodes : List BoxNode) : Type 0 where
  -- each fleet with a plan that runs costs at least what some leaf is worth
  pub leaf : (fleet : List ℕ) (plan : List (List ℕ)) → IsFleetOf day fleet → Runs (with_fleet fleet day) plan
      → (value : ℤ) × Contains (values_of day prices nodes) value × (value ≤ℤ pos (price_of day prices fleet plan))
  -- so none costs less than what is nowhere above the values
  pub bound : (bound : ℤ) → All (λ value. bound ≤ℤ value) (values_of day prices nodes)
      → FleetsCostAtLeast day prices bound
  -- and none has a plan that runs, where there is no value
  pub none : values_of day prices nodes ≡ [] → NoFleetRuns day

abbrev pub ProvedBoxesBound : Type 0
ProvedBoxesBound = (day : Day) (prices : List ℕ) (nodes : List BoxNode) → IsSoundDay day → AreProved day nodes
    → DoBound day prices nodes
