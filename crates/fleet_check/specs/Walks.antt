-- What is known of boxes of fleets of a day, and of the nodes of trees over them.
use Rattle.std.specs.Prelude.{ℕ, ◌≡◌, List}
use Rattle.timetable.specs.Day.{Day}
use Rattle.branch_tree.specs.Trees.{IsLeastOf}
use Rattle.fleets.specs.Fleets.{FitsDay, IsNowhereAbove}
use Rattle.fleet_boxes.specs.declared.boxes.FleetBox.{FleetBox}
use Rattle.fleet_boxes.specs.declared.nodes.BoxNode.{BoxNode}
use Rattle.fleet_boxes.specs.ProvedBoxes.{AreProved, values_of}
use Rattle.fleet_check.specs.declared.leaves.Leaves.{Leaves}
use Rattle.fleet_check.specs.Verdicts.{splits_in}

-- the greatest fleet of the box fits the day, and the least is nowhere above it
pub record IsFittingBox (day : Day) (box : FleetBox) : Type 0 where
  pub greatest : FitsDay day box.greatest
  pub least : IsNowhereAbove box.least box.greatest

-- the nodes are proved, and what their leaves say together is the number of their splits and the least of their values
pub record AreLeavesOf (day : Day) (prices : List ℕ) (nodes : List BoxNode) (leaves : Leaves) : Type 0 where
  pub proved : AreProved day nodes
  pub splits : leaves.splits ≡ splits_in nodes
  pub least : IsLeastOf (values_of day prices nodes) leaves.least
