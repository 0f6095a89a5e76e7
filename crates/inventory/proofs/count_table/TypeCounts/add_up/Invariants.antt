-- The numbers so far are sums.
use Rattle.std.proofs.Common.{◌≡◌, ◌++◌, take, drop}
use Rattle.inventory.specs.CountTable.{sums_from}
use Rattle.inventory.proofs.count_table.TypeCounts.add_up.Given as goal

abbrev pub invariant-loop-place : goal.invariant-loop-place
invariant-loop-place l = take l.place l.self-inside.counts.items ++ sums_from l.sum (drop l.place l.self-inside.counts.items) ≡ sums_from l.first l.fn.self
