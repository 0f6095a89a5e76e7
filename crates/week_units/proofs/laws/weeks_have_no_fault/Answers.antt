use Rattle.week_units.proofs.Faults.{no_fault}
use Rattle.week_units.proofs.laws.weeks_have_no_fault.Goals as goal

pub returns : goal.returns
returns c = record { law = no_fault }
