use Rattle.std.proofs.Common.{take}
use Rattle.timetable.specs.Day.{unit_count}
use Rattle.unit_duties.proofs.Stopping.{StopsSoFar}
use Rattle.unit_duties.proofs.by_unit.duties.Given as goal

abbrev pub invariant-loop-trip : goal.invariant-loop-trip
invariant-loop-trip l = StopsSoFar l.plan (unit_count l.instance) (take l.trip-index l.trip-items) l.lists.items
