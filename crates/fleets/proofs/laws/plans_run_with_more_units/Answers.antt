use Rattle.fleets.proofs.MoreUnits.{plans_run_with_more_units}
use Rattle.fleets.proofs.laws.plans_run_with_more_units.Goals as goal

pub returns : goal.returns
returns c = record { law = plans_run_with_more_units }
