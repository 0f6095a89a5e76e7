use Rattle.day_simulator.proofs.StepEffects.{steps_change_states}
use Rattle.day_simulator.proofs.laws.steps_change_states.Goals as goal

pub returns : goal.returns
returns c = record { law = steps_change_states }
