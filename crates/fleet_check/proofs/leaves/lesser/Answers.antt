use Rattle.std.proofs.Common.{subst}
use Rattle.branch_tree.specs.Trees.{IsLeastOf}
use Rattle.fleet_check.proofs.leaves.lesser.Goals as goal

pub returns-in-Some : goal.returns-in-Some
returns-in-Some c values is = c.lower_of.ensures values (subst (IsLeastOf values) c.in-Some.is is)
