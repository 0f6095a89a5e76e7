use Rattle.std.proofs.Common.{rules}
use Rattle.advisors.proofs.diver.DiverAdvisor.advise.Goals as goal

pub returns-clause-asked : goal.returns-clause-asked
returns-clause-asked c = search rules
