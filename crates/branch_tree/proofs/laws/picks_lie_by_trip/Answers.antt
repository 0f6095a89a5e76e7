use Rattle.branch_tree.proofs.Lying.{picks_lie_by_trip}
use Rattle.branch_tree.proofs.laws.picks_lie_by_trip.Goals as goal

pub returns : goal.returns
returns c = record { law = picks_lie_by_trip }
