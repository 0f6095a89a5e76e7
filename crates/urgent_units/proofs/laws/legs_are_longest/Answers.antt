use Rattle.urgent_units.proofs.RunLaw.{runs_are_longest}
use Rattle.urgent_units.proofs.laws.legs_are_longest.Goals as goal

pub returns : goal.returns
returns c = record { law = runs_are_longest }
