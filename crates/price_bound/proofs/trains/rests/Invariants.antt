-- The places so far.
use Rattle.price_bound.specs.CompositionTrees.{AreEach, IsRest}
use Rattle.price_bound.proofs.trains.rests.Given as goal

abbrev pub invariant-loop-comp : goal.invariant-loop-comp
invariant-loop-comp l = AreEach (IsRest l.instance l.end) l.comp l.rests.items
