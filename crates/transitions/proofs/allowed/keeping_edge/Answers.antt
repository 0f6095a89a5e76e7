use Rattle.std.proofs.Common.{rules}
use Rattle.transitions.proofs.allowed.keeping_edge.Goals as goal

pub returns : goal.returns
returns c = search rules
