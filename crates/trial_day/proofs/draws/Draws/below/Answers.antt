use Rattle.std.proofs.Common.{rules}
use Rattle.trial_day.proofs.draws.Draws.below.Goals as goal

pub returns-clause-number : goal.returns-clause-number
returns-clause-number c = search rules
