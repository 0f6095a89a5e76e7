use Rattle.std.proofs.Common.{length, reverse, take}
use Rattle.timetable.specs.Duties.{in_order}
use Rattle.timetable.specs.Lists.{below}
use Rattle.timetable.specs.Picks.{picked}
use Rattle.unit_duties.proofs.NextTrip.{NamedSoFar}
use Rattle.unit_duties.proofs.naming.named_from.Given as goal

abbrev pub invariant-loop-trip : goal.invariant-loop-trip
invariant-loop-trip l = NamedSoFar l.instance (picked l.instance l.fn.naming.picks.now) l.fn.naming.minute l.fn.naming.earlier.now (reverse (take l.trip-index (in_order l.instance (below (length l.instance.trips))))) l.lists.items l.yards
