use Rattle.branch_tree.proofs.Covering.{leaves_exceed_branches}
use Rattle.branch_tree.proofs.laws.leaves_exceed_branches.Goals as goal

pub returns : goal.returns
returns c = record { law = leaves_exceed_branches }
