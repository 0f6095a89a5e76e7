use Rattle.std.proofs.Common.{rules}
use Rattle.cert_check.proofs.shape.test_branchings.Goals as goal

pub returns-clause-same : goal.returns-clause-same
returns-clause-same c = search rules
