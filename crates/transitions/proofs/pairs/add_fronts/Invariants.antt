-- The pairs so far are those by the first numbers of units.
use Rattle.std.proofs.Common.{◌≡◌}
use Rattle.transitions.specs.Pairs.{IsFront, Grown}
use Rattle.transitions.proofs.pairs.add_fronts.Given as goal

abbrev pub invariant-loop-units : goal.invariant-loop-units
invariant-loop-units l = Grown l.instance l.initial.pairs.items l.pairs.items (λ pair. (pair.to ≡ l.to) × IsFront l.instance l.reversed l.end l.units pair)
