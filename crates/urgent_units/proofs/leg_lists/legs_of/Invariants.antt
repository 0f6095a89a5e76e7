-- The legs of the trips that were gone through, the first of them last.
use Rattle.std.proofs.Common.{◌≡◌, ◌≤◌, drop, length, reverse}
use Rattle.timetable.specs.Duties.{duty}
use Rattle.urgent_units.specs.Legs.{stays}
use Rattle.urgent_units.proofs.LegLists.{legs_in}
use Rattle.urgent_units.proofs.leg_lists.legs_of.Given as goal

abbrev pub invariant-loop-left : goal.invariant-loop-left
invariant-loop-left l =
    (reverse l.legs.items ≡ legs_in l.instance (stays l.instance l.plan l.unit) (drop l.left (duty l.instance l.plan l.unit)))
    × (l.left ≤ length l.stops)

abbrev pub decreases-loop-left : goal.decreases-loop-left
decreases-loop-left l = l.left
