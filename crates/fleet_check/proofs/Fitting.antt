-- The box of a day, and the parts of boxes, have fleets that fit it.
use Rattle.std.proofs.Common.{ℕ, ◌+◌, ◌*◌, List, [], ◌∷◌, ◌++◌, length, arith}
use Rattle.std.specs.Prelude.{replicate}
use Rattle.timetable.specs.Day.{Day}
use Rattle.timetable.specs.Accepted.{IsSoundDay}
use Rattle.fleets.specs.Fleets.{FitsDay, IsNowhereAbove, own_fleet}
use Rattle.fleets.proofs.OwnFleets.{own_fleet_fits}
use Rattle.fleets.proofs.Sizes.{smaller_fleets_fit}
use Rattle.fleet_boxes.specs.declared.boxes.FleetBox.{FleetBox}
use Rattle.fleet_boxes.specs.declared.nodes.BoxNode.{BoxNode}
use Rattle.fleet_boxes.specs.declared.nodes.BoxNode.TheVariants.{Split, Bound, Nothing}
use Rattle.fleet_boxes.specs.Boxes.{IsParted, box_of, lower_part, upper_part}
use Rattle.fleet_boxes.specs.ProvedBoxes.{IsProvedAt, boxes_below}
use Rattle.fleet_boxes.proofs.Parts.{boxes_have_all_fleets, not_above, splits_part}
use Rattle.fleet_check.specs.Walks.{IsFittingBox}

pub itself : (fleet : List ℕ) → IsNowhereAbove fleet fleet
itself [] = tt
itself (units ∷ fleet) = ((omega arith), itself fleet)

-- no units are nowhere above
pub none_there : (fleet : List ℕ) → IsNowhereAbove (replicate (length fleet) 0) fleet
none_there [] = tt
none_there (units ∷ fleet) = ((omega arith), none_there fleet)

pub root_fits : (day : Day) → IsSoundDay day → IsFittingBox day (box_of day)
root_fits day sound = record {
  greatest = own_fleet_fits day sound.limits.units.few;
  least = ((boxes_have_all_fleets day (own_fleet day)).1 (itself (own_fleet day))).above;
}

-- the least fleet fits too
pub least_fits : (day : Day) (box : FleetBox) → IsFittingBox day box → FitsDay day box.least
least_fits day box fits = smaller_fleets_fit day box.least box.greatest fits.greatest fits.least

pub lower_fits : (day : Day) (box : FleetBox) (place at : ℕ) → IsFittingBox day box → IsParted box place at
    → IsFittingBox day (lower_part place at box)
lower_fits day box place at fits parted = record {
  greatest = smaller_fleets_fit day (lower_part place at box).greatest box.greatest fits.greatest
      (not_above box.greatest place at (omega (arith, parted.below)));
  least = ((splits_part box place at box.least parted).lower.1
      (record { above = itself box.least; below = fits.least }, parted.from)).below;
}

pub upper_fits : (day : Day) (box : FleetBox) (place at : ℕ) → IsFittingBox day box → IsParted box place at
    → IsFittingBox day (upper_part place at box)
upper_fits day box place at fits parted = record {
  greatest = fits.greatest;
  least = ((splits_part box place at box.greatest parted).upper.1
      (record { above = fits.least; below = itself box.greatest }, parted.below)).above;
}

-- ---- boxes in a row

abbrev pub Fit : Day → List FleetBox → Type 0
Fit day [] = Unit {0}
Fit day (box ∷ boxes) = IsFittingBox day box × Fit day boxes

-- those below a node that is proved, and others
pub parts_fit : (day : Day) (box : FleetBox) (node : BoxNode) (boxes : List FleetBox) → IsFittingBox day box
    → IsProvedAt day box node → Fit day boxes → Fit day (boxes_below (length day.types) box node ++ boxes)
parts_fit day box (Split station unit_type at) boxes fits proved others =
    let place : ℕ = station * length day.types + unit_type in
    (lower_fits day box place at fits proved.parted, (upper_fits day box place at fits proved.parted, others))
parts_fit day box (Bound bound branchings tree) boxes fits proved others = others
parts_fit day box (Nothing branchings tree) boxes fits proved others = others
