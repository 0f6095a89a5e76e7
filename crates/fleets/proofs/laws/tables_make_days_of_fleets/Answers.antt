use Rattle.fleets.proofs.FleetDays.{tables_make_days_of_fleets}
use Rattle.fleets.proofs.laws.tables_make_days_of_fleets.Goals as goal

pub returns : goal.returns
returns c = record { law = tables_make_days_of_fleets }
