-- The stock so far and the rows still to come give what all rows give.
use Rattle.std.proofs.Common.{◌≡◌, ◌+◌, length, drop}
use Rattle.day_tables.specs.Build.{accept_stock}
use Rattle.day_tables.specs.Rowwise.{accept_each}
use Rattle.day_tables.proofs.building.entries.add_stock.Given as goal

abbrev pub invariant-loop-row : goal.invariant-loop-row
invariant-loop-row l =
    (accept_each (accept_stock l.stations l.types) l.stock.items (drop l.row-index l.rows) ≡ accept_each (accept_stock l.stations l.types) l.fn.stock.items l.rows) ×
    (length l.stock.items ≡ length l.fn.stock.items + l.row-index)
