-- The stations so far are cleared.
use Rattle.std.proofs.Common.{◌≡◌, ◌≤◌, ◌++◌, take, drop, map, length, pos}
use Rattle.inventory.proofs.count_table.CountTable.clear.Given as goal

abbrev pub invariant-loop-place : goal.invariant-loop-place
invariant-loop-place l = (take l.place l.self-inside.stations.items ++ map (map (map (λ _. pos 0))) (drop l.place l.self-inside.stations.items) ≡ map (map (map (λ _. pos 0))) l.fn.self) × (length l.self-inside.stations.items ≤ 60)
