-- The rows so far.
use Rattle.std.proofs.Common.{◌≡◌, take}
use Rattle.std.specs.List.{All}
use Rattle.rail_csv.specs.Rows.{IsStockRow}
use Rattle.fleets.specs.Fleets.{rows_from}
use Rattle.fleets.proofs.days.rows_of.Given as goal

abbrev pub invariant-loop-place : goal.invariant-loop-place
invariant-loop-place l = record {
  rows : l.rows.items ≡ rows_from l.instance 0 (take l.place l.fleet);
  within : All IsStockRow l.rows.items;
}
