use Rattle.branch_tree.proofs.Settling.{single_picks_are_evident}
use Rattle.branch_tree.proofs.laws.single_picks_are_evident.Goals as goal

pub returns : goal.returns
returns g c = record { law = λ problem accepted. single_picks_are_evident (g.R.Relaxation.meanings problem) (g.met.R.Relaxation.relaxes problem accepted) }
