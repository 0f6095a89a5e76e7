use Rattle.urgent_units.proofs.CutLaw.{cuts_bound_namings}
use Rattle.urgent_units.proofs.laws.cuts_bound_namings.Goals as goal

pub returns : goal.returns
returns c = record { law = cuts_bound_namings }
