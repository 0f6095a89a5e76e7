-- The places so far.
use Rattle.price_bound.specs.CompositionTrees.{AreEach, IsTurnedPlace}
use Rattle.price_bound.proofs.trains.turned_places.Given as goal

abbrev pub invariant-loop-comp : goal.invariant-loop-comp
invariant-loop-comp l = AreEach (IsTurnedPlace l.instance l.reversed) l.comp l.places.items
