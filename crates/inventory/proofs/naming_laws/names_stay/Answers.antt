use Rattle.inventory.proofs.Frozen.{names_stay_so}
use Rattle.inventory.proofs.naming_laws.names_stay.Goals as goal

pub returns : goal.returns
returns c = record { law = names_stay_so }
