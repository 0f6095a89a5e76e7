-- The rows so far are cleared.
use Rattle.std.proofs.Common.{◌≡◌, ◌++◌, take, drop, map, pos}
use Rattle.price_bound.proofs.amounts.AmountTable.clear.Given as goal

abbrev pub invariant-loop-row : goal.invariant-loop-row
invariant-loop-row l = take l.row l.self-inside.rows.items ++ map (map (λ _. pos 0)) (drop l.row l.self-inside.rows.items) ≡ map (map (λ _. pos 0)) l.fn.self
