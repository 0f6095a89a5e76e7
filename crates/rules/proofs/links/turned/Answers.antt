use Rattle.std.proofs.Common.{rules}
use Rattle.rules.proofs.links.turned.Goals as goal

pub returns-else-reversed : goal.returns-else-reversed
returns-else-reversed g c = search rules
