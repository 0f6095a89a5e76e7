-- The amounts from a column on are added up.
use Rattle.std.proofs.Common.{◌≡◌, ◌≤◌, ◌++◌, take, drop, length}
use Rattle.price_bound.specs.YardTables.{later_sums, whole_sum}
use Rattle.price_bound.proofs.amounts.AmountRow.add_later.Given as goal

abbrev pub invariant-loop-column : goal.invariant-loop-column
invariant-loop-column l = record {
  amounts : l.self-inside.amounts.items ≡ take l.column l.fn.self ++ later_sums (drop l.column l.fn.self);
  sum : l.sum ≡ whole_sum (drop l.column l.fn.self);
  within : l.column ≤ length l.fn.self;
}

abbrev pub decreases-loop-column : goal.decreases-loop-column
decreases-loop-column l = l.column
