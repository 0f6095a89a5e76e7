use Rattle.std.proofs.Common.{◌≡◌, ℕ, ◌<◌, false, get_or}
use Rattle.search.specs.declared.nodes.SearchNode.{SearchNode}
use Rattle.search.specs.Frontiers.{has_rank}
use Rattle.search.proofs.frontier.place_of.Given as goal

abbrev pub invariant-loop-place : goal.invariant-loop-place
invariant-loop-place l = (k : ℕ) (node : SearchNode) → k < l.place → has_rank l.bound l.number (get_or l.nodes k node) ≡ false
