-- The changes so far are of other trips.
use Rattle.std.proofs.Common.{◌≡◌, drop}
use Rattle.price_bound.specs.Changes.{change_cost}
use Rattle.price_bound.proofs.changes.change_cost.Given as goal

abbrev pub invariant-loop-place : goal.invariant-loop-place
invariant-loop-place l = change_cost (drop l.place l.changes) l.trip l.comp ≡ change_cost l.changes l.trip l.comp
