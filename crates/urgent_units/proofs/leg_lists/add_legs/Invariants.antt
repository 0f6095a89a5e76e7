-- The minutes of the legs that were gone through, among those of before.
use Rattle.std.proofs.Common.{◌≡◌, ◌≤◌, ◌<◌, drop, length}
use Rattle.std.specs.List.{AllPairs}
use Rattle.urgent_units.specs.Moments.{with_legs}
use Rattle.urgent_units.proofs.leg_lists.add_legs.Given as goal

abbrev pub invariant-loop-left : goal.invariant-loop-left
invariant-loop-left l = record {
  items : l.minutes.items ≡ with_legs l.station (drop l.left l.legs) l.fn.minutes.items;
  rise : AllPairs (λ a b. a < b) l.minutes.items;
  left : l.left ≤ length l.legs;
}

abbrev pub decreases-loop-left : goal.decreases-loop-left
decreases-loop-left l = l.left
