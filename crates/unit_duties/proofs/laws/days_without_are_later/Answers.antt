use Rattle.unit_duties.proofs.DaysWithout.{days_without_are_later}
use Rattle.unit_duties.proofs.laws.days_without_are_later.Goals as goal

pub returns : goal.returns
returns c = record { law = days_without_are_later }
