-- The types that are left change what is to change.
use Rattle.std.proofs.Common.{◌≡◌, drop}
use Rattle.inventory.specs.CountTable.{changed_for}
use Rattle.inventory.proofs.count_table.CountTable.change_each.Given as goal

abbrev pub invariant-loop-i : goal.invariant-loop-i
invariant-loop-i l = changed_for l.station l.place l.change (drop l.i l.types) l.self ≡ changed_for l.station l.place l.change l.types l.fn.self
