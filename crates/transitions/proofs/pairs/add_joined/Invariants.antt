-- The pairs so far are those by the first compositions.
use Rattle.std.proofs.Common.{◌≡◌}
use Rattle.transitions.specs.Pairs.{IsJoined, Grown}
use Rattle.transitions.proofs.pairs.add_joined.Given as goal

abbrev pub invariant-loop-part : goal.invariant-loop-part
invariant-loop-part l = Grown l.instance l.initial.pairs.items l.pairs.items (λ pair. (pair.to ≡ l.to) × IsJoined l.instance l.reversed l.end l.units l.part pair)
