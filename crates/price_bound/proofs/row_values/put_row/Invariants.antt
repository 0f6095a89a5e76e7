-- The members of the words so far stand in the row, and are within the range.
use Rattle.std.proofs.Common.{◌*◌, ◌≤◌, length}
use Rattle.price_bound.specs.RowValues.{AreFilled, AreMembersIn}
use Rattle.price_bound.proofs.row_values.put_row.Given as goal

abbrev pub invariant-loop-place : goal.invariant-loop-place
invariant-loop-place g l = record {
  row : AreFilled (g.V.RowValues.comps l.values) (g.V.RowValues.cell l.values) (g.V.RowValues.IsFew l.values) (l.place * 64) l.row;
  members : AreMembersIn l.range (g.V.RowValues.member l.values) (l.place * 64);
  begin : l.range.begin ≤ length l.fn.row;
}
