use Rattle.std.proofs.Common.{rules}
use Rattle.advisors.proofs.subgradient.SubgradientAdvisor.advise.Goals as goal

pub returns-then-len-eq0-clause-answer : goal.returns-then-len-eq0-clause-answer
returns-then-len-eq0-clause-answer c = search rules
