-- The units so far and those of the rows still to come are all of them.
use Rattle.std.proofs.Common.{◌≡◌, ◌++◌, drop}
use Rattle.timetable.specs.Day.{units_in}
use Rattle.timetable.proofs.day.instance.units_of.Given as goal

abbrev pub invariant-loop-row : goal.invariant-loop-row
invariant-loop-row l = l.units.items ++ units_in (drop l.row-index l.stock) ≡ units_in l.stock
