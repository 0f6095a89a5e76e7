use Rattle.day_reports.proofs.WholeReports.{yards_are_by_station}
use Rattle.day_reports.proofs.laws.yards_are_by_station.Goals as goal

pub returns : goal.returns
returns c = record { law = yards_are_by_station }
