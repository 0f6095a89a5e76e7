use Rattle.branch_tree.proofs.Dividing.{cuts_are_undone}
use Rattle.branch_tree.proofs.laws.cuts_are_undone.Goals as goal

pub returns : goal.returns
returns c = record { law = cuts_are_undone }
