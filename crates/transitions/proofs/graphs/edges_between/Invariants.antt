-- The edges so far are those between the first pairs.
use Rattle.transitions.specs.Edges.{IsKindEdge}
use Rattle.transitions.proofs.Looking.{Looked}
use Rattle.transitions.proofs.graphs.edges_between.Given as goal

abbrev pub invariant-loop-pair : goal.invariant-loop-pair
invariant-loop-pair l = Looked (IsKindEdge l.instance l.link.kind l.link.reverse) l.pairs l.pair-index l.edges.items
