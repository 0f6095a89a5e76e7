-- Boxes of fleets, and their parts.
use Rattle.std.specs.Prelude.{ℕ, ◌≤◌, ◌<◌, ◌+◌, ◌*◌, List, length, slice_index, set, replicate}
use Rattle.timetable.specs.Day.{Day}
use Rattle.fleets.specs.Fleets.{IsNowhereAbove, own_fleet}
use Rattle.fleet_boxes.specs.declared.boxes.FleetBox.{FleetBox}

-- the fleet is between the least and the greatest of the box
pub record HasFleet (box : FleetBox) (fleet : List ℕ) : Type 0 where
  pub above : IsNowhereAbove box.least fleet
  pub below : IsNowhereAbove fleet box.greatest

-- the box of a day, in which are all fleets of it
abbrev pub box_of : Day → FleetBox
box_of day = record { least = replicate (length day.stations * length day.types) 0; greatest = own_fleet day }

-- so many units at a place part the box: some of its fleets may have as many or fewer there, and some more
pub record IsParted (box : FleetBox) (place at : ℕ) : Type 0 where
  pub least_there : place < length box.least
  pub there : place < length box.greatest
  pub from : slice_index box.least place ≤ at
  pub below : at < slice_index box.greatest place

-- the part of those with at most so many units at the place, and the part of those with more
abbrev pub lower_part : ℕ → ℕ → FleetBox → FleetBox
lower_part place at box = record { least = box.least; greatest = set box.greatest place at }

abbrev pub upper_part : ℕ → ℕ → FleetBox → FleetBox
upper_part place at box = record { least = set box.least place (at + 1); greatest = box.greatest }
