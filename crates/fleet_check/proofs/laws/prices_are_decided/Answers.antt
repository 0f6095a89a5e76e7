use Rattle.fleet_check.proofs.PriceLaw.{prices_are_decided}
use Rattle.fleet_check.proofs.laws.prices_are_decided.Goals as goal

pub returns : goal.returns
returns c = record { law = prices_are_decided }
