use Rattle.branch_tree.proofs.Roots.{roots_are_filled, solutions_lie_in_roots}
use Rattle.branch_tree.proofs.laws.roots_have_all_solutions.Goals as goal

pub returns : goal.returns
returns c = record { filled = roots_are_filled; solutions = solutions_lie_in_roots }
