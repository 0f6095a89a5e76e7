use Rattle.std.proofs.Common.{◌≡◌}
use Rattle.timetable.specs.Lists.{below}
use Rattle.unit_duties.proofs.order.trips_by_number.Given as goal

abbrev pub invariant-loop-number : goal.invariant-loop-number
invariant-loop-number l = l.order.items ≡ below l.number
