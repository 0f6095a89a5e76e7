use Rattle.fleet_check.proofs.OnTheWay.{IsHere}
use Rattle.fleet_check.proofs.box_trees.test_nodes.Given as goal

-- the nodes so far are proved in their boxes, the other boxes wait, and the leaves so far say this
abbrev pub invariant-loop-number : goal.invariant-loop-number
invariant-loop-number l = IsHere l.tables.instance.now l.prices l.nodes l.number l.waiting.items l.leaves
