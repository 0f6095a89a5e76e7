use Rattle.branch_tree.proofs.Over.{some_cuts_are_proper}
use Rattle.branch_tree.proofs.laws.some_cuts_are_proper.Goals as goal

pub returns : goal.returns
returns c = record { law = some_cuts_are_proper }
