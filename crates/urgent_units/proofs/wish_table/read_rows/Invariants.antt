use Rattle.std.proofs.Common.{length}
use Rattle.rail_csv.specs.Records.{records_left}
use Rattle.urgent_units.proofs.WishRows.{ReadSoFar}
use Rattle.urgent_units.proofs.wish_table.read_rows.Given as goal

-- the records before those that are left are right, and say these rows
abbrev pub invariant-loop-rows : goal.invariant-loop-rows
invariant-loop-rows l = ReadSoFar l.instance (records_left l.fn.records) l.records l.rows.items

abbrev pub decreases-loop-rows : goal.decreases-loop-rows
decreases-loop-rows l = length (records_left l.records)
