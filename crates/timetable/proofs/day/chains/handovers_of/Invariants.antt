-- The hand-overs so far and those of the links still to come are all of them.
use Rattle.std.proofs.Common.{◌≡◌, ◌++◌, drop}
use Rattle.timetable.specs.Handovers.{handovers_from}
use Rattle.timetable.proofs.day.chains.handovers_of.Given as goal

abbrev pub invariant-loop-number : goal.invariant-loop-number
invariant-loop-number l = l.handovers.items ++ handovers_from l.number (drop l.number l.links) ≡ handovers_from 0 l.links
