use Rattle.advisors.specs.Dives.{IsNarrowestOf}
use Rattle.advisors.proofs.diver.narrowest.Given as goal

abbrev pub invariant-loop-trip : goal.invariant-loop-trip
invariant-loop-trip l = IsNarrowestOf l.trip l.sizes l.found
