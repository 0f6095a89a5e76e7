use Rattle.std.proofs.Common.{◌≡◌, ◌-◌, ◌≤◌, [], length}
use Rattle.answer_text.specs.Pieces.{pieces}
use Rattle.answer_text.specs.ReadStates.{at_nodes, reading}
use Rattle.answer_text.proofs.reading.read_from_nodes.Given as goal

-- what is left gives after these nodes what all gives
abbrev pub invariant-loop-tree : goal.invariant-loop-tree
invariant-loop-tree l = record {
  few : length l.tree ≤ 8001;
  kept : l.runs.items ≡ l.fn.runs.items;
  same : reading (at_nodes l.head l.branchings l.fn.runs.items l.tree) (pieces 10 l.rest) ≡ reading (at_nodes l.head l.branchings l.fn.runs.items []) (pieces 10 l.fn.bytes);
}

abbrev pub decreases-loop-tree : goal.decreases-loop-tree
decreases-loop-tree l = 8001 - length l.tree
