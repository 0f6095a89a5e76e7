use Rattle.fleets.proofs.OwnFleets.{own_fleets_stand}
use Rattle.fleets.proofs.laws.own_fleets_stand.Goals as goal

pub returns : goal.returns
returns c = record { law = own_fleets_stand }
