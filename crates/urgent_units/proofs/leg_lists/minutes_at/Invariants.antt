-- The minutes of the units that were gone through.
use Rattle.std.proofs.Common.{◌≡◌, ◌≤◌, ◌<◌, [], drop, length}
use Rattle.std.specs.List.{AllPairs, flat_map}
use Rattle.urgent_units.specs.Moments.{with_legs}
use Rattle.urgent_units.proofs.leg_lists.minutes_at.Given as goal

abbrev pub invariant-loop-left : goal.invariant-loop-left
invariant-loop-left l = record {
  items : l.minutes.items ≡ with_legs l.station (flat_map (λ unit. unit.legs) (drop l.left l.units)) [];
  rise : AllPairs (λ a b. a < b) l.minutes.items;
  left : l.left ≤ length l.units;
}

abbrev pub decreases-loop-left : goal.decreases-loop-left
decreases-loop-left l = l.left
