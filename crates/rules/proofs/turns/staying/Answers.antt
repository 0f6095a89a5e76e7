use Rattle.std.proofs.Common.{rules}
use Rattle.rules.proofs.turns.staying.Goals as goal

pub returns-in-Rear : goal.returns-in-Rear
returns-in-Rear g c = search rules
