-- The values so far are out.
use Rattle.std.proofs.Common.{length}
use Rattle.price_bound.proofs.CellValues.{AreOut}
use Rattle.price_bound.proofs.row_values.clear_range.Given as goal

abbrev pub invariant-loop-comp : goal.invariant-loop-comp
invariant-loop-comp l = AreOut (length l.fn.row) l.fn.range.end l.comp l.row
