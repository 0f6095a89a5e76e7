use Rattle.std.proofs.Common.{rules}
use Rattle.cert_check.proofs.leaves.does_fit.Goals as goal

pub returns : goal.returns
returns g c = search rules
