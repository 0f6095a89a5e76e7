-- So many types have zeros.
use Rattle.std.proofs.Common.{◌≡◌, replicate}
use Rattle.inventory.specs.CountTable.{zeros}
use Rattle.inventory.proofs.count_table.StationCounts.new.Given as goal

abbrev pub invariant-loop-unit_type : goal.invariant-loop-unit_type
invariant-loop-unit_type l = l.counts.items ≡ replicate l.unit_type (zeros l.minutes)
