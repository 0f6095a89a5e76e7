use Rattle.trial_day.proofs.Accepting.{trial_days_are_accepted as the_law}
use Rattle.trial_day.proofs.laws.trial_days_are_accepted.Goals as goal

pub returns : goal.returns
returns c = record { law = the_law }
