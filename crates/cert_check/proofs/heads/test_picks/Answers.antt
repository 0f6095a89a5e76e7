use Rattle.std.proofs.Common.{rules}
use Rattle.cert_check.proofs.heads.test_picks.Goals as goal

pub returns-in-Optimal-clause-passed : goal.returns-in-Optimal-clause-passed
returns-in-Optimal-clause-passed g c = search rules
