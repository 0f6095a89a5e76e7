use Rattle.transitions.proofs.Following.{edges_found}
use Rattle.transitions.proofs.laws.edges_are_found.Goals as goal

pub returns : goal.returns
returns c = record { law = edges_found }
