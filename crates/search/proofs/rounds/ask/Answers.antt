use Rattle.std.proofs.Common.{rules}
use Rattle.search.proofs.rounds.ask.Goals as goal

pub returns-clause-answered : goal.returns-clause-answered
returns-clause-answered g c = search rules
