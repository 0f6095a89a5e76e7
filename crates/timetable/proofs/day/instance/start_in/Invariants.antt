-- The rows before this one are of another station or type.
use Rattle.std.proofs.Common.{◌≡◌, drop}
use Rattle.timetable.specs.Starts.{start_in}
use Rattle.timetable.proofs.day.instance.start_in.Given as goal

abbrev pub invariant-loop-row : goal.invariant-loop-row
invariant-loop-row l = start_in (drop l.row-index l.stock) l.station l.unit_type ≡ start_in l.stock l.station l.unit_type
