use Rattle.branch_tree.proofs.Settling.{broken_picks_have_rays}
use Rattle.branch_tree.proofs.laws.broken_picks_have_rays.Goals as goal

pub returns : goal.returns
returns g c = record { law = λ problem accepted. broken_picks_have_rays (g.R.Relaxation.meanings problem) (g.met.R.Relaxation.relaxes problem accepted) }
