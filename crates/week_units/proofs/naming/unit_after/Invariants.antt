-- The units so far are counted, and none of them was the one.
use Rattle.std.proofs.Common.{◌≡◌, ◌≤◌}
use Rattle.timetable.specs.Lists.{count_below}
use Rattle.timetable.specs.Renumbering.{is_at, unit_after}
use Rattle.week_units.specs.Listed.{units_listed}
use Rattle.week_units.proofs.naming.unit_after.Given as goal

abbrev pub invariant-loop-k : goal.invariant-loop-k
invariant-loop-k l =
    (l.count ≡ count_below (is_at (units_listed l.units) l.station l.unit_type) l.k)
    × (l.count ≤ l.k)
    × (unit_after (units_listed l.units) l.station l.unit_type l.before l.k ≡ 0)
