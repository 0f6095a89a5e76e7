-- The rows so far are looked into.
use Rattle.std.proofs.Common.{◌≡◌, ◌++◌, take, drop, length}
use Rattle.price_bound.specs.YardTables.{column_of}
use Rattle.price_bound.proofs.amounts.copy_column.Given as goal

abbrev pub invariant-loop-row : goal.invariant-loop-row
invariant-loop-row l = record {
  amounts : take l.row l.amounts ++ column_of l.column (drop l.row l.rows) ≡ column_of l.column l.rows;
  long : length l.amounts ≡ length l.rows;
}
