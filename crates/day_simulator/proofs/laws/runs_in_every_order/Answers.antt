use Rattle.day_simulator.proofs.Theorem.{in_every_order}
use Rattle.day_simulator.proofs.laws.runs_in_every_order.Goals as goal

pub returns : goal.returns
returns c = record { law = in_every_order }
