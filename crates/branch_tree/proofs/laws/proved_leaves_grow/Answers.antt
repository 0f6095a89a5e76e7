use Rattle.branch_tree.specs.Claims.{IsProvedAt}
use Rattle.branch_tree.proofs.Walking.{leaves_grow}
use Rattle.branch_tree.proofs.laws.proved_leaves_grow.Goals as goal

pub returns : goal.returns
returns g c = record { law = λ problem. leaves_grow (IsProvedAt (g.R.Relaxation.meanings problem)) }
