use Rattle.branch_tree.proofs.Duality.{solutions_are_priced_low}
use Rattle.branch_tree.proofs.laws.solutions_are_priced_low.Goals as goal

pub returns : goal.returns
returns g c = record { law = λ problem accepted. solutions_are_priced_low (g.R.Relaxation.meanings problem) (g.met.R.Relaxation.relaxes problem accepted) }
