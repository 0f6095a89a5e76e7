use Rattle.transitions.proofs.Following.{types_follow}
use Rattle.transitions.proofs.laws.types_follow_edges.Goals as goal

pub returns : goal.returns
returns c = record { law = types_follow }
