use Rattle.price_bound.proofs.ChangedPlans.{changed_plans_are_priced_low}
use Rattle.price_bound.proofs.laws.changed_plans_are_priced_low.Goals as goal

pub returns : goal.returns
returns c = changed_plans_are_priced_low
