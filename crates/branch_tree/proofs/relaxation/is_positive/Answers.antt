use Rattle.std.proofs.Common.{rules}
use Rattle.branch_tree.proofs.relaxation.is_positive.Goals as goal

pub returns-in-Some : goal.returns-in-Some
returns-in-Some c = search rules
