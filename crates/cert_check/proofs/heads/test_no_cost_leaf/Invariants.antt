use Rattle.std.proofs.Common.{drop}
use Rattle.cert_check.specs.Reasons.{IsLeft}
use Rattle.cert_check.proofs.Bounding.{AreOnWay}
use Rattle.cert_check.proofs.heads.test_no_cost_leaf.Given as goal

abbrev pub invariant-loop-number : goal.invariant-loop-number
invariant-loop-number l = AreOnWay (IsLeft) (λ bound. ⊥) l.tree l.number (drop l.number l.tree)
