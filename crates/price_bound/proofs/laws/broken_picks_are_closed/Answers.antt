use Rattle.price_bound.proofs.Closing.{broken_picks_are_closed}
use Rattle.price_bound.proofs.laws.broken_picks_are_closed.Goals as goal

pub returns : goal.returns
returns c = record { law = broken_picks_are_closed }
