-- The set has the moments of the legs.
use Rattle.urgent_units.specs.Cuts.{HasMoments}
use Rattle.worked_urgent.proofs.wish_tests.cut_of.Given as goal

abbrev pub invariant-loop-station : goal.invariant-loop-station
invariant-loop-station l = HasMoments l.legs l.cut
