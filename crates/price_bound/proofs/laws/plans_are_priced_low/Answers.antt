use Rattle.price_bound.proofs.Planned.{plans_are_priced_low, plans_have_picks}
use Rattle.price_bound.proofs.laws.plans_are_priced_low.Goals as goal

pub returns : goal.returns
returns c = record { picks = plans_have_picks; law = plans_are_priced_low }
