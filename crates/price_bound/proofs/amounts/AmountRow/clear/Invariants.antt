-- The amounts so far are zero.
use Rattle.std.proofs.Common.{◌≡◌, ◌++◌, take, drop, map, pos}
use Rattle.price_bound.proofs.amounts.AmountRow.clear.Given as goal

abbrev pub invariant-loop-column : goal.invariant-loop-column
invariant-loop-column l = take l.column l.self-inside.amounts.items ++ map (λ _. pos 0) (drop l.column l.self-inside.amounts.items) ≡ map (λ _. pos 0) l.fn.self
