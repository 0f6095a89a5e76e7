use Rattle.inventory.proofs.OtherUnits.{served_plans_run_with_units}
use Rattle.inventory.proofs.naming_laws.served_plans_run_with_units.Goals as goal

pub returns : goal.returns
returns c = record { law = served_plans_run_with_units }
