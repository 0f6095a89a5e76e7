use Rattle.std.proofs.Common.{◌≤ℤ◌, drop}
use Rattle.cert_check.specs.Reasons.{IsBelowCost}
use Rattle.cert_check.proofs.Bounding.{AreOnWay}
use Rattle.cert_check.proofs.heads.test_none_below.Given as goal

abbrev pub invariant-loop-number : goal.invariant-loop-number
invariant-loop-number l = AreOnWay (IsBelowCost l.cost.0) (λ bound. l.cost.0 ≤ℤ bound) l.tree l.number (drop l.number l.tree)
