-- The members so far stand in the row, and the bits of the others are left.
use Rattle.std.proofs.Common.{◌≡◌, ◌≤◌, ◌+◌, ◌-◌, ◌/◌, ◌^◌}
use Rattle.price_bound.specs.RowValues.{AreFilled}
use Rattle.price_bound.proofs.row_values.put_word.Given as goal

abbrev pub invariant-loop-comp : goal.invariant-loop-comp
invariant-loop-comp g l = record {
  row : AreFilled (g.V.RowValues.comps l.values) (g.V.RowValues.cell l.values) (g.V.RowValues.IsFew l.values) l.comp l.row;
  most : l.comp ≤ l.fn.begin + 64;
  left : l.left ≡ l.fn.word / 2 ^ (l.comp - l.fn.begin);
}
