use Rattle.day_simulator.proofs.EndFaults.{ends_are_told}
use Rattle.day_simulator.proofs.laws.ends_are_told.Goals as goal

pub returns : goal.returns
returns c = record { law = ends_are_told }
