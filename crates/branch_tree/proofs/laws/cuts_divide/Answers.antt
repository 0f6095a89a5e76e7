use Rattle.branch_tree.proofs.Dividing.{cuts_divide}
use Rattle.branch_tree.proofs.laws.cuts_divide.Goals as goal

pub returns : goal.returns
returns c = record { law = cuts_divide }
