-- One unit more was sent to the sink from the node.
use Rattle.std.proofs.Common.{length}
use Rattle.flow_network.specs.Steps.{rank_of}
use Rattle.flow_network.proofs.filling.push.Given as goal
use Rattle.flow_network.proofs.Pushing.{IsPushed}

abbrev pub invariant-loop-node : goal.invariant-loop-node
invariant-loop-node l = IsPushed (record { nodes = length l.steps; source = l.source; sink = l.sink; arcs = l.fn.arcs }) l.steps l.node l.arcs

abbrev pub decreases-loop-node : goal.decreases-loop-node
decreases-loop-node l = rank_of l.source l.steps l.node
