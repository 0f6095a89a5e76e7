-- The types so far.
use Rattle.price_bound.specs.CompositionTrees.{AreEach, IsLast}
use Rattle.price_bound.proofs.trains.lasts.Given as goal

abbrev pub invariant-loop-comp : goal.invariant-loop-comp
invariant-loop-comp l = AreEach (IsLast l.instance) l.comp l.lasts.items
