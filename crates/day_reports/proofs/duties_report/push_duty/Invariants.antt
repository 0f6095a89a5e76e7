use Rattle.std.proofs.Common.{◌≡◌, ◌++◌, drop, map}
use Rattle.day_reports.specs.DutyRows.{stop_row}
use Rattle.day_reports.proofs.duties_report.push_duty.Given as goal

-- the rows so far, and those that are left
abbrev pub invariant-loop-stop : goal.invariant-loop-stop
invariant-loop-stop l = l.report ++ map (stop_row l.instance l.unit) (drop l.stop-index l.stops) ≡ l.fn.report ++ map (stop_row l.instance l.unit) l.stops
