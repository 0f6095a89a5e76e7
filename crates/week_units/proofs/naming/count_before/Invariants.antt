-- The units so far are counted.
use Rattle.std.proofs.Common.{◌≡◌, ◌≤◌}
use Rattle.timetable.specs.Lists.{count_below}
use Rattle.timetable.specs.Renumbering.{is_at}
use Rattle.week_units.specs.Listed.{units_listed}
use Rattle.week_units.proofs.naming.count_before.Given as goal

abbrev pub invariant-loop-k : goal.invariant-loop-k
invariant-loop-k l = (l.count ≡ count_below (is_at (units_listed l.units) l.station l.unit_type) l.k) × (l.count ≤ l.k)
