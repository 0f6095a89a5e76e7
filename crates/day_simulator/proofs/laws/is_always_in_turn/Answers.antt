use Rattle.day_simulator.proofs.InTurn.{in_turn}
use Rattle.day_simulator.proofs.laws.is_always_in_turn.Goals as goal

pub returns : goal.returns
returns c = record { law = in_turn }
