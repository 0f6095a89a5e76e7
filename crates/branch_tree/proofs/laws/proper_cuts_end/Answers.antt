use Rattle.branch_tree.proofs.Ending.{proper_cuts_end}
use Rattle.branch_tree.proofs.laws.proper_cuts_end.Goals as goal

pub returns : goal.returns
returns c = record { law = proper_cuts_end }
