use Rattle.std.proofs.Common.{◌≡◌, ◌∷◌}
use Rattle.timetable.specs.Lists.{joined}
use Rattle.timetable.specs.Picks.{picked}
use Rattle.day_reports.specs.Text.{header_of}
use Rattle.day_reports.specs.YardRows.{fields_of_station, yard_columns}
use Rattle.day_reports.proofs.yards_report.yards_table.Given as goal

abbrev pub invariant-loop-number : goal.invariant-loop-number
invariant-loop-number l = l.report ≡ header_of yard_columns ∷ joined (fields_of_station l.instance (picked l.instance l.picks)) l.number
