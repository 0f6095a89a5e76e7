use Rattle.fleets.proofs.Sizes.{smaller_fleets_fit}
use Rattle.fleets.proofs.laws.smaller_fleets_fit.Goals as goal

pub returns : goal.returns
returns c = record { law = smaller_fleets_fit }
