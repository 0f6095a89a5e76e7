-- The least of the cells so far, and of those that are left, is the least of all.
use Rattle.std.proofs.Common.{◌≡◌, drop, None}
use Rattle.price_bound.specs.CellRows.{IsHeld, held_cell}
use Rattle.price_bound.specs.Paths.{least_from}
use Rattle.price_bound.proofs.cells.CellRow.least.Given as goal

abbrev pub invariant-loop-comp : goal.invariant-loop-comp
invariant-loop-comp l = record {
  least : least_from l.comp (held_cell l.least) (drop l.comp l.self) ≡ least_from 0 None l.self;
  held : IsHeld l.least.value;
}
