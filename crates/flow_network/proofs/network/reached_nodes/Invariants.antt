-- The nodes so far.
use Rattle.std.proofs.Common.{◌≡◌, ◌<◌, ℕ, length}
use Rattle.flow_network.specs.Flows.{is_reached}
use Rattle.flow_network.specs.Steps.{has}
use Rattle.flow_network.proofs.network.reached_nodes.Given as goal

abbrev pub invariant-loop-node : goal.invariant-loop-node
invariant-loop-node l = (length l.nodes.items ≡ l.node) × ((n : ℕ) → n < l.node → is_reached l.nodes.items n ≡ has l.source l.steps n)
