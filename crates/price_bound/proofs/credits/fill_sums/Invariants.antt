-- The trips so far have their sums.
use Rattle.price_bound.specs.Credits.{AreTripSums}
use Rattle.price_bound.proofs.credits.fill_sums.Given as goal

abbrev pub invariant-loop-trip : goal.invariant-loop-trip
invariant-loop-trip l = AreTripSums l.instance l.region l.tables.gives l.tables.takes l.trip l.sums
