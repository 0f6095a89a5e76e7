use Rattle.day_simulator.proofs.Theorem.{run_in_fixed_order}
use Rattle.day_simulator.proofs.laws.runs_exactly.Goals as goal

pub returns : goal.returns
returns c = record { law = run_in_fixed_order }
