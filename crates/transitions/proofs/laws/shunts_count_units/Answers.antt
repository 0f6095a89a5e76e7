use Rattle.transitions.proofs.Counting.{shunts_count_units as the_law}
use Rattle.transitions.proofs.laws.shunts_count_units.Goals as goal

pub returns : goal.returns
returns c = record { law = the_law }
