use Rattle.day_simulator.proofs.StepTests.{steps_are_tested}
use Rattle.day_simulator.proofs.laws.steps_are_tested.Goals as goal

pub returns : goal.returns
returns c = record { law = steps_are_tested }
