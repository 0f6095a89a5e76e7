-- The pairs so far are those by the first numbers of units that are coupled.
use Rattle.std.proofs.Common.{◌≡◌}
use Rattle.transitions.specs.Pairs.{uncoupled_at, coupled_at, IsExchanged, Grown}
use Rattle.transitions.proofs.pairs.add_exchanged.Given as goal

abbrev pub invariant-loop-coupled : goal.invariant-loop-coupled
invariant-loop-coupled l =
    Grown l.instance l.initial.pairs.items l.pairs.items (λ pair. (pair.to ≡ l.to) × IsExchanged l.instance l.link.reverse (uncoupled_at l.link.kind) (coupled_at l.link.kind) l.few l.coupled pair)
