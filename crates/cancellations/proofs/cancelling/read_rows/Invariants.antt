use Rattle.std.proofs.Common.{length}
use Rattle.rail_csv.specs.Records.{records_left}
use Rattle.cancellations.proofs.RowsRead.{ReadSoFar}
use Rattle.cancellations.proofs.cancelling.read_rows.Given as goal

-- the rows before those that are left cancel these trips
abbrev pub invariant-loop-trips : goal.invariant-loop-trips
invariant-loop-trips l = ReadSoFar l.instance l.now (records_left l.fn.records) l.records l.trips.items

abbrev pub decreases-loop-trips : goal.decreases-loop-trips
decreases-loop-trips l = length (records_left l.records)
