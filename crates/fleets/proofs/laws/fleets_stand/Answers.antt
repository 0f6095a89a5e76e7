use Rattle.fleets.proofs.Standing.{fleets_stand}
use Rattle.fleets.proofs.laws.fleets_stand.Goals as goal

pub returns : goal.returns
returns c = record { law = fleets_stand }
