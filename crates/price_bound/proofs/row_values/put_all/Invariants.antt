-- The compositions so far stand in the row.
use Rattle.price_bound.proofs.RowValues.{ArePut}
use Rattle.price_bound.proofs.row_values.put_all.Given as goal

abbrev pub invariant-loop-comp : goal.invariant-loop-comp
invariant-loop-comp g l = ArePut (g.V.RowValues.comps l.values) (g.V.RowValues.cell l.values) (g.V.RowValues.IsFew l.values) l.comp l.row
