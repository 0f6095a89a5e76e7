use Rattle.urgent_units.proofs.HeldUnits.{held_units_are_ready}
use Rattle.urgent_units.proofs.laws.held_units_are_ready.Goals as goal

pub returns : goal.returns
returns c = record { law = held_units_are_ready }
