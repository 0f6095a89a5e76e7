use Rattle.inventory.proofs.Fetching.{next_units}
use Rattle.inventory.proofs.naming_laws.units_are_taken_in_turn.Goals as goal

pub returns : goal.returns
returns c = record { law = next_units }
