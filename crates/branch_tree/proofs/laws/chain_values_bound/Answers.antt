use Rattle.branch_tree.proofs.Duality.{chain_values_bound}
use Rattle.branch_tree.proofs.laws.chain_values_bound.Goals as goal

pub returns : goal.returns
returns g c = record { law = λ problem accepted. chain_values_bound (g.R.Relaxation.meanings problem) (g.met.R.Relaxation.relaxes problem accepted) }
