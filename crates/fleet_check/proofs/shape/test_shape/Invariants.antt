use Rattle.fleet_check.proofs.Shapes.{IsOpenAfter}
use Rattle.fleet_check.proofs.shape.test_shape.Given as goal

-- so many trees are missing after the nodes so far
abbrev pub invariant-loop-number : goal.invariant-loop-number
invariant-loop-number l = IsOpenAfter l.nodes l.number l.missing
