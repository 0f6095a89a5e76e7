use Rattle.price_bound.proofs.ChangedClosing.{changed_broken_picks_are_closed}
use Rattle.price_bound.proofs.laws.changed_broken_picks_are_closed.Goals as goal

pub returns : goal.returns
returns c = record { law = changed_broken_picks_are_closed }
