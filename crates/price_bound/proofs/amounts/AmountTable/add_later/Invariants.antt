-- The rows so far are added up.
use Rattle.std.proofs.Common.{◌≡◌, ◌++◌, take, drop, map}
use Rattle.price_bound.specs.YardTables.{later_sums}
use Rattle.price_bound.proofs.amounts.AmountTable.add_later.Given as goal

abbrev pub invariant-loop-row : goal.invariant-loop-row
invariant-loop-row l = take l.row l.self-inside.rows.items ++ map later_sums (drop l.row l.self-inside.rows.items) ≡ map later_sums l.fn.self
