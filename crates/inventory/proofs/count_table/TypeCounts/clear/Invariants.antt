-- The numbers so far are zero.
use Rattle.std.proofs.Common.{◌≡◌, ◌++◌, take, drop, map, pos}
use Rattle.inventory.proofs.count_table.TypeCounts.clear.Given as goal

abbrev pub invariant-loop-place : goal.invariant-loop-place
invariant-loop-place l = take l.place l.self-inside.counts.items ++ map (λ _. pos 0) (drop l.place l.self-inside.counts.items) ≡ map (λ _. pos 0) l.fn.self
