use Rattle.inventory.proofs.Earlier.{running_plans_are_named as the_law}
use Rattle.inventory.proofs.naming_laws.running_plans_are_named.Goals as goal

pub returns : goal.returns
returns c = record { law = the_law }
