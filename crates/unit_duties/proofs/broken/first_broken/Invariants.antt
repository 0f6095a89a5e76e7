use Rattle.timetable.specs.Picks.{picked}
use Rattle.unit_duties.specs.Broken.{HoldBelow}
use Rattle.unit_duties.proofs.broken.first_broken.Given as goal

abbrev pub invariant-loop-number : goal.invariant-loop-number
invariant-loop-number l = HoldBelow l.instance (picked l.instance l.picks) l.number
