use Rattle.day_simulator.proofs.ByTrip.{in_fixed_order}
use Rattle.day_simulator.proofs.laws.is_in_fixed_order.Goals as goal

pub returns : goal.returns
returns c = record { law = in_fixed_order }
