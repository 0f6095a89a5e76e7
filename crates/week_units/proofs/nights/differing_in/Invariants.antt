-- The types so far are the same in number.
use Rattle.std.proofs.Common.{◌≡◌, ℕ, ◌<◌}
use Rattle.timetable.specs.Day.{wanted_of}
use Rattle.timetable.specs.Starts.{start_of}
use Rattle.week_units.proofs.nights.differing_in.Given as goal

abbrev pub invariant-loop-unit_type : goal.invariant-loop-unit_type
invariant-loop-unit_type l = (m : ℕ) → m < l.unit_type → wanted_of l.before l.station m ≡ start_of l.day l.station m
