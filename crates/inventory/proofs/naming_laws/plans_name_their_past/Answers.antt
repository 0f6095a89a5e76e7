use Rattle.inventory.proofs.Frozen.{plans_name_their_past}
use Rattle.inventory.proofs.naming_laws.plans_name_their_past.Goals as goal

pub returns : goal.returns
returns c = record { law = plans_name_their_past }
