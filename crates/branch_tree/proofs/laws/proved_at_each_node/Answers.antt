use Rattle.branch_tree.specs.Claims.{IsProvedAt}
use Rattle.branch_tree.proofs.Walking.{covers_each, proved_at_each_node}
use Rattle.branch_tree.proofs.laws.proved_at_each_node.Goals as goal

pub returns : goal.returns
returns g c = record {
  together = λ problem. proved_at_each_node (g.R.Relaxation.meanings problem);
  each = λ problem. covers_each (IsProvedAt (g.R.Relaxation.meanings problem));
}
