use Rattle.std.proofs.Common.{◌≢◌, ℕ, ◌<◌, get_or}
use Rattle.answer_text.proofs.pieces.first_piece.Given as goal

-- no mark stands before this place
abbrev pub invariant-loop-end : goal.invariant-loop-end
invariant-loop-end l = (k : ℕ) → k < l.end → get_or l.text k 0 ≢ l.fn.mark
