use Rattle.inventory.proofs.OtherUnits.{units_are_left}
use Rattle.inventory.proofs.serving_laws.units_are_left.Goals as goal

pub returns : goal.returns
returns c = record { law = units_are_left }
