-- One of the units from the place on may take the leg.
use Rattle.std.proofs.Common.{◌≤◌, ◌-◌, length, drop}
use Rattle.std.specs.List.{count_by}
use Rattle.urgent_units.specs.UnderWay.{may_take}
use Rattle.urgent_units.proofs.swaps.rider_for.Given as goal

abbrev pub invariant-loop-place : goal.invariant-loop-place
invariant-loop-place l = 1 ≤ count_by (may_take l.marked) (drop l.place l.riders)

abbrev pub decreases-loop-place : goal.decreases-loop-place
decreases-loop-place l = length l.riders - l.place
