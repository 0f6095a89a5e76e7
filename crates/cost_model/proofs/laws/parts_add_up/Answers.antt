use Rattle.cost_model.proofs.Adding.{add_up}
use Rattle.cost_model.proofs.laws.parts_add_up.Goals as goal

pub returns : goal.returns
returns c = record { law = add_up }
