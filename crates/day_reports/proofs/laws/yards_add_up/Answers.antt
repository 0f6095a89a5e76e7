use Rattle.day_reports.proofs.Adding.{yards_add_up}
use Rattle.day_reports.proofs.laws.yards_add_up.Goals as goal

pub returns : goal.returns
returns c = record { law = yards_add_up }
