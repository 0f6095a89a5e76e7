-- The costs of the trips so far are put, and the changes from a place on are of later ones.
use Rattle.std.proofs.Common.{◌≡◌, ◌≤◌, ℕ, length, drop}
use Rattle.timetable.specs.Compositions.{compositions_of}
use Rattle.price_bound.specs.Changes.{AreFrom, change_cost}
use Rattle.price_bound.specs.Costs.{AreCostsBelow}
use Rattle.price_bound.specs.PriceTables.{HasSize}
use Rattle.price_bound.proofs.costs.fill_costs.Given as goal

abbrev pub invariant-loop-trip : goal.invariant-loop-trip
invariant-loop-trip l = record {
  room : HasSize (length l.instance.trips) (length (compositions_of l.instance)) l.costs;
  costs : AreCostsBelow l.instance l.changes l.trip l.costs;
  within : l.place ≤ length l.changes;
  left : AreFrom (drop l.place l.changes) l.trip;
  same : (t comp : ℕ) → l.trip ≤ t → change_cost (drop l.place l.changes) t comp ≡ change_cost l.changes t comp;
}
