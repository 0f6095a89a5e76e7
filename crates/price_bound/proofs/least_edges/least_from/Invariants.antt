-- The cell so far is the first of least value among those of the edges so far.
use Rattle.std.proofs.Common.{◌-◌, length}
use Rattle.price_bound.specs.CellRows.{IsHeld, held_cell}
use Rattle.price_bound.proofs.EdgeGroups.{IsLeastSoFar}
use Rattle.price_bound.proofs.least_edges.least_from.Given as goal

abbrev pub invariant-loop-comp : goal.invariant-loop-comp
invariant-loop-comp g l = record {
  least : IsLeastSoFar (g.P.EdgePrices.priced l.prices) (g.P.EdgePrices.link l.prices) l.edges l.ahead l.fn.comp l.fn.begin l.place
      (held_cell l.least);
  held : IsHeld l.least.value;
}

abbrev pub decreases-loop-comp : goal.decreases-loop-comp
decreases-loop-comp g l = length l.edges - l.place
