use Rattle.std.proofs.Common.{◌≡◌, ◌++◌, drop, map}
use Rattle.timetable.specs.Minutes.{minutes_of}
use Rattle.day_reports.specs.YardRows.{rows_after, yard_fields, fields_of_yard}
use Rattle.day_reports.proofs.yards_report.push_yard.Given as goal

-- the rows so far, and those that are left
abbrev pub invariant-loop-place : goal.invariant-loop-place
invariant-loop-place l =
    l.report ++ map (yard_fields l.yard) (rows_after l.yard l.since (drop l.place (minutes_of l.yard.day l.yard.station)))
    ≡ l.fn.report ++ fields_of_yard l.yard
