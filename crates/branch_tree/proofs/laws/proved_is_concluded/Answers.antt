use Rattle.branch_tree.proofs.Concluding.{proved_is_concluded}
use Rattle.branch_tree.proofs.laws.proved_is_concluded.Goals as goal

pub returns : goal.returns
returns g c = record { law = λ problem accepted. proved_is_concluded (g.R.Relaxation.meanings problem) (g.met.R.Relaxation.relaxes problem accepted) }
