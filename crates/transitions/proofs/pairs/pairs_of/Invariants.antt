-- The pairs so far are those of the first compositions.
use Rattle.std.proofs.Common.{[], ◌<◌}
use Rattle.std.specs.Prelude.{◌⊎◌}
use Rattle.transitions.specs.Pairs.{Grown}
use Rattle.transitions.proofs.Reaching.{IsMadeOn, IsLeftOn}
use Rattle.transitions.proofs.pairs.pairs_of.Given as goal

abbrev pub invariant-loop-to : goal.invariant-loop-to
invariant-loop-to l = Grown l.instance [] l.pairs.items (λ pair. (pair.to < l.to) × IsMadeOn l.instance l.link.kind l.link.reverse l.few pair)

abbrev pub invariant-loop-from : goal.invariant-loop-from
invariant-loop-from l =
    Grown l.instance [] l.pairs.items (λ pair. IsMadeOn l.instance l.link.kind l.link.reverse l.few pair ⊎ ((pair.from < l.from) × IsLeftOn l.instance l.link.kind l.link.reverse pair))
