use Rattle.std.proofs.Common.{◌≡◌, ◌++◌, length, reverse}
use Rattle.search.specs.Nodes.{tree_nodes}
use Rattle.search.proofs.solving.into_tree.Given as goal

abbrev pub invariant-loop-node : goal.invariant-loop-node
invariant-loop-node l = l.tree ++ tree_nodes (reverse l.nodes.items) ≡ tree_nodes l.fn.nodes.items

abbrev pub decreases-loop-node : goal.decreases-loop-node
decreases-loop-node l = length l.nodes.items
