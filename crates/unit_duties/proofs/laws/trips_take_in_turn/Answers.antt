use Rattle.unit_duties.proofs.Taking.{trips_take_in_turn as the_law}
use Rattle.unit_duties.proofs.laws.trips_take_in_turn.Goals as goal

pub returns : goal.returns
returns c = record { law = the_law }
