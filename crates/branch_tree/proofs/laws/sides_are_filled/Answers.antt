use Rattle.branch_tree.proofs.Ending.{sides_are_filled}
use Rattle.branch_tree.proofs.laws.sides_are_filled.Goals as goal

pub returns : goal.returns
returns c = record { law = sides_are_filled }
