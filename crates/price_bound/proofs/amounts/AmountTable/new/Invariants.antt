-- So many rows have zeros.
use Rattle.std.proofs.Common.{◌≡◌, replicate, pos}
use Rattle.price_bound.proofs.amounts.AmountTable.new.Given as goal

abbrev pub invariant-loop-row : goal.invariant-loop-row
invariant-loop-row l = l.table.items ≡ replicate l.row (replicate l.columns (pos 0))
