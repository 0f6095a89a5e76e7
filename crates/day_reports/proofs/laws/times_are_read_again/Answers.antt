use Rattle.day_reports.proofs.ReadTimes.{times_are_read_again}
use Rattle.day_reports.proofs.laws.times_are_read_again.Goals as goal

pub returns : goal.returns
returns c = record { law = times_are_read_again }
