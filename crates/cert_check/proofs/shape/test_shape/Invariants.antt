use Rattle.cert_check.proofs.Shapes.{IsOpenAfter}
use Rattle.cert_check.proofs.shape.test_shape.Given as goal

abbrev pub invariant-loop-number : goal.invariant-loop-number
invariant-loop-number l = IsOpenAfter l.tree l.number l.missing
