use Rattle.std.proofs.Common.{◌≡◌, ◌≤◌, length}
use Rattle.rail_csv.specs.Tables.{rows_from}
use Rattle.rail_csv.specs.Records.{ReadsOn, records_left}
use Rattle.rail_csv.specs.ReadRows.{all_rows}
use Rattle.rail_csv.proofs.reading.read_rows.Given as goal

-- the rows so far and those that are left are the rows of the table
abbrev pub invariant-loop-rows : goal.invariant-loop-rows
invariant-loop-rows g l = record {
  reads : ReadsOn l.records;
  few : length l.rows.items ≤ l.limit;
  total : all_rows l.width l.limit g.T.TableRow.columns l.rows.items (records_left l.records) ≡ rows_from l.width l.limit g.T.TableRow.columns 1 (records_left l.fn.records);
}

abbrev pub decreases-loop-rows : goal.decreases-loop-rows
decreases-loop-rows g l = length (records_left l.records)
