use Rattle.branch_tree.proofs.Dividing.{cuts_keep}
use Rattle.branch_tree.proofs.laws.cuts_keep.Goals as goal

pub returns : goal.returns
returns c = record { law = cuts_keep }
