use Rattle.std.proofs.Common.{◌≡◌, ◌≤◌, ◌+◌, drop}
use Rattle.timetable.specs.Lists.{count_of}
use Rattle.day_reports.proofs.yard.count_of.Given as goal

-- those so far, and those that are left
abbrev pub invariant-loop-each : goal.invariant-loop-each
invariant-loop-each l = record {
  whole : l.count + count_of l.unit_type (drop l.each-index l.types) ≡ count_of l.unit_type l.types;
  few : l.count ≤ l.each-index;
}
