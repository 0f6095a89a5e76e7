use Rattle.inventory.proofs.OtherUnits.{plans_of_units_are_served}
use Rattle.inventory.proofs.serving_laws.plans_of_units_are_served.Goals as goal

pub returns : goal.returns
returns c = record { law = plans_of_units_are_served }
