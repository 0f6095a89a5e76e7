-- The stations so far are added up.
use Rattle.std.proofs.Common.{◌≡◌, ◌++◌, take, drop, length}
use Rattle.inventory.specs.CountTable.{all_sums}
use Rattle.inventory.proofs.count_table.CountTable.add_up.Given as goal

abbrev pub invariant-loop-place : goal.invariant-loop-place
invariant-loop-place l = (take l.place l.self-inside.stations.items ++ all_sums l.instance l.place (drop l.place l.self-inside.stations.items) ≡ all_sums l.instance 0 l.fn.self) × (length l.self-inside.stations.items ≡ length l.fn.self)
