use Rattle.day_simulator.proofs.Moments.{moments_are_of_minutes}
use Rattle.day_simulator.proofs.laws.moments_are_of_minutes.Goals as goal

pub returns : goal.returns
returns c = record { law = moments_are_of_minutes }
