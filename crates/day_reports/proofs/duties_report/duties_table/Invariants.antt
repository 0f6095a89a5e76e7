use Rattle.std.proofs.Common.{◌≡◌, ◌∷◌}
use Rattle.timetable.specs.Lists.{joined}
use Rattle.unit_duties.specs.Stops.{stops_of}
use Rattle.day_reports.specs.DutyRows.{duty_columns, duty_rows}
use Rattle.day_reports.specs.Text.{header_of}
use Rattle.day_reports.proofs.duties_report.duties_table.Given as goal

abbrev pub invariant-loop-number : goal.invariant-loop-number
invariant-loop-number l = l.report ≡ header_of duty_columns ∷ joined (λ u. duty_rows l.instance u (stops_of l.instance l.plan u)) l.number
