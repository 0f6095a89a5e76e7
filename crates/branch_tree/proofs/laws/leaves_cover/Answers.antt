use Rattle.branch_tree.proofs.Covering.{leaves_cover}
use Rattle.branch_tree.proofs.laws.leaves_cover.Goals as goal

pub returns : goal.returns
returns c = record { law = leaves_cover }
