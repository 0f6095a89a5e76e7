use Rattle.branch_tree.proofs.Duality.{bounds_are_chain_values, chain_values_are_one, empty_has_no_chain_value}
use Rattle.branch_tree.proofs.laws.bounds_are_chain_values.Goals as goal

pub returns : goal.returns
returns g c = record {
  value = λ problem. bounds_are_chain_values (g.R.Relaxation.meanings problem);
  one = λ problem. chain_values_are_one (g.R.Relaxation.meanings problem);
  empty = λ problem. empty_has_no_chain_value (g.R.Relaxation.meanings problem);
}
