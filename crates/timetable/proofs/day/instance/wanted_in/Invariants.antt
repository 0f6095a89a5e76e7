-- The rows before this one are of another station or type.
use Rattle.std.proofs.Common.{◌≡◌, drop}
use Rattle.timetable.specs.Day.{wanted_in}
use Rattle.timetable.proofs.day.instance.wanted_in.Given as goal

abbrev pub invariant-loop-row : goal.invariant-loop-row
invariant-loop-row l = wanted_in (drop l.row-index l.stock) l.station l.unit_type ≡ wanted_in l.stock l.station l.unit_type
