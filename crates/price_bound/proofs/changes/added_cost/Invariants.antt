-- The sum so far, and its size.
use Rattle.std.proofs.Common.{◌≡◌, ◌*◌, take, pos}
use Rattle.price_bound.specs.CellSizes.{IsSmall}
use Rattle.price_bound.specs.ChangedDays.{added_cost}
use Rattle.price_bound.proofs.changes.added_cost.Given as goal

abbrev pub invariant-loop-place : goal.invariant-loop-place
invariant-loop-place l = record {
  sum : l.sum.0 ≡ pos (added_cost (take l.place l.changes) l.picks);
  small : IsSmall (l.place * 4294967296) l.sum.0;
}
