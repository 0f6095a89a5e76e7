-- So many units of the row were added.
use Rattle.std.proofs.Common.{◌≡◌, ◌++◌, replicate}
use Rattle.timetable.proofs.day.instance.push_units.Given as goal

abbrev pub invariant-loop : goal.invariant-loop
invariant-loop l = l.units.items ≡ l.fn.units.items ++ replicate l.counter (record { unit_type = l.fn.row.unit_type; home = l.fn.row.station })
