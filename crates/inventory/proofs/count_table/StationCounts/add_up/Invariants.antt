-- The types so far are added up.
use Rattle.std.proofs.Common.{◌≡◌, ◌≤◌, ◌++◌, take, drop, length}
use Rattle.inventory.specs.CountTable.{sums_for}
use Rattle.inventory.proofs.count_table.StationCounts.add_up.Given as goal

abbrev pub invariant-loop-place : goal.invariant-loop-place
invariant-loop-place l = (take l.place l.self-inside.types.items ++ sums_for l.instance l.station l.place (drop l.place l.self-inside.types.items) ≡ sums_for l.instance l.station 0 l.fn.self) × (length l.self-inside.types.items ≤ 6)
