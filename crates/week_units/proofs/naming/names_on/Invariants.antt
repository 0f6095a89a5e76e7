-- The units so far have their numbers.
use Rattle.std.proofs.Common.{◌≡◌}
use Rattle.timetable.specs.Lists.{listed}
use Rattle.timetable.specs.Renumbering.{kth_number}
use Rattle.week_units.specs.Listed.{units_listed}
use Rattle.week_units.proofs.naming.names_on.Given as goal

abbrev pub invariant-loop-unit : goal.invariant-loop-unit
invariant-loop-unit l = l.numbers.items ≡ listed (kth_number (units_listed l.own.items) (units_listed l.units)) l.unit
