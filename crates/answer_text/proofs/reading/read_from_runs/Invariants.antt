use Rattle.std.proofs.Common.{◌≡◌, ◌-◌, ◌≤◌, [], length}
use Rattle.answer_text.specs.Pieces.{pieces}
use Rattle.answer_text.specs.ReadStates.{at_runs, reading}
use Rattle.answer_text.proofs.reading.read_from_runs.Given as goal

-- what is left gives after these runs what all gives
abbrev pub invariant-loop-runs : goal.invariant-loop-runs
invariant-loop-runs l = record {
  few : length l.runs.items ≤ l.most;
  same : reading (at_runs l.head l.branchings l.runs.items) (pieces 10 l.rest) ≡ reading (at_runs l.head l.branchings []) (pieces 10 l.fn.bytes);
}

abbrev pub decreases-loop-runs : goal.decreases-loop-runs
decreases-loop-runs l = l.most - length l.runs.items
