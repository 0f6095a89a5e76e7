use Rattle.std.proofs.Common.{rules}
use Rattle.price_bound.proofs.constants.constant_by.Goals as goal

pub returns-in-Mu-clause-value : goal.returns-in-Mu-clause-value
returns-in-Mu-clause-value c = search rules
