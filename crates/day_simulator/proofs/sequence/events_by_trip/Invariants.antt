use Rattle.std.proofs.Common.{◌≡◌}
use Rattle.timetable.specs.Lists.{below}
use Rattle.day_simulator.specs.Steps.{events_by_trip}
use Rattle.day_simulator.proofs.sequence.events_by_trip.Given as goal

abbrev pub invariant-loop-number : goal.invariant-loop-number
invariant-loop-number l = l.events.items ≡ events_by_trip (below l.number)
