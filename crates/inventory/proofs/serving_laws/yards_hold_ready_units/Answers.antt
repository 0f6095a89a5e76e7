use Rattle.inventory.proofs.ReadyUnits.{yards_hold_ready_units}
use Rattle.inventory.proofs.serving_laws.yards_hold_ready_units.Goals as goal

pub returns : goal.returns
returns c = record { law = yards_hold_ready_units }
