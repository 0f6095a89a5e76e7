-- The words so far tell of all their compositions.
use Rattle.std.proofs.Common.{◌≡◌, ◌+◌, ◌*◌}
use Rattle.price_bound.specs.RowValues.{TellsAll}
use Rattle.price_bound.proofs.row_values.has_all.Given as goal

abbrev pub invariant-loop-place : goal.invariant-loop-place
invariant-loop-place l = record {
  left : l.left + l.place * 64 ≡ l.fn.comps;
  told : TellsAll l.words (l.place * 64);
}
