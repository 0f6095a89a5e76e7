use Rattle.price_bound.proofs.Whole.{relaxes}
use Rattle.price_bound.proofs.laws.days_are_relaxations.Goals as goal

pub returns : goal.returns
returns c = record { law = relaxes }
