use Rattle.cost_model.proofs.ByLength.{costs_by_length}
use Rattle.cost_model.proofs.laws.turns_cost_by_length.Goals as goal

pub returns : goal.returns
returns c = record { law = costs_by_length }
