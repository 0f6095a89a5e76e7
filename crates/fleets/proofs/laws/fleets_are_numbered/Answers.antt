use Rattle.fleets.proofs.Numbering.{fleets_are_numbered}
use Rattle.fleets.proofs.laws.fleets_are_numbered.Goals as goal

pub returns : goal.returns
returns c = record { law = fleets_are_numbered }
