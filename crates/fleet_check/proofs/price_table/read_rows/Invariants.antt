use Rattle.rail_csv.specs.Records.{records_left}
use Rattle.fleet_check.proofs.PriceRows.{ReadSoFar}
use Rattle.fleet_check.proofs.price_table.read_rows.Given as goal

-- the records before those that are left are right, and say these costs
abbrev pub invariant-loop-number : goal.invariant-loop-number
invariant-loop-number l = ReadSoFar (records_left l.fn.records) l.instance.types l.records l.costs.items l.number
