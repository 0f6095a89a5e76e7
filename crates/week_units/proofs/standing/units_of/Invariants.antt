-- The units so far.
use Rattle.std.proofs.Common.{◌≡◌, take}
use Rattle.timetable.specs.Day.{units_of}
use Rattle.week_units.proofs.standing.units_of.Given as goal

abbrev pub invariant-loop-unit : goal.invariant-loop-unit
invariant-loop-unit l = l.units.items ≡ take l.unit (units_of l.instance)
