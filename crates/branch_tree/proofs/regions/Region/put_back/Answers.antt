use Rattle.std.proofs.Common.{rules}
use Rattle.branch_tree.proofs.regions.Region.put_back.Goals as goal

pub returns : goal.returns
returns c = search rules
