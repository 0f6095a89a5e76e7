use Rattle.day_reports.proofs.WholeReports.{costs_are_by_part}
use Rattle.day_reports.proofs.laws.costs_are_by_part.Goals as goal

pub returns : goal.returns
returns c = record { law = costs_are_by_part }
