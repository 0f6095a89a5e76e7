use Rattle.price_bound.proofs.ChangedRelaxation.{changed_days_are_relaxations, unchanged_days_are_days}
use Rattle.price_bound.proofs.laws.changed_days_are_relaxations.Goals as goal

pub returns : goal.returns
returns c = record { law = changed_days_are_relaxations; unchanged = unchanged_days_are_days }
