use Rattle.urgent_units.proofs.Exchanged.{exchanged_plans_run}
use Rattle.urgent_units.proofs.laws.exchanged_plans_run.Goals as goal

pub returns : goal.returns
returns c = record { law = exchanged_plans_run }
