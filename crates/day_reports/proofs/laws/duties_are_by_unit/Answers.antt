use Rattle.day_reports.proofs.WholeReports.{duties_are_by_unit}
use Rattle.day_reports.proofs.laws.duties_are_by_unit.Goals as goal

pub returns : goal.returns
returns c = record { law = duties_are_by_unit }
