use Rattle.std.proofs.Common.{◌≡◌, ◌≤◌, ◌&&◌, ◌==◌}
use Rattle.timetable.specs.Day.{type_of}
use Rattle.timetable.specs.Lists.{count_below}
use Rattle.day_simulator.specs.State.{location_of, is_in_yard}
use Rattle.day_simulator.proofs.balance.yard_count.Given as goal

abbrev pub invariant-loop-number : goal.invariant-loop-number
invariant-loop-number l = record {
  so_far : l.count ≡ count_below (λ u. is_in_yard l.station (location_of l.locations u) && (type_of l.instance u == l.unit_type)) l.number;
  few : l.count ≤ l.number;
}
