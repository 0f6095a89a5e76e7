-- The trips so far and those that still follow are the chain.
use Rattle.std.proofs.Common.{◌≡◌, ◌-◌, ◌<◌, ◌++◌, length}
use Rattle.std.specs.Prelude.{IfSome}
use Rattle.timetable.specs.Chains.{next_in, follow, chain_from}
use Rattle.timetable.proofs.day.chains.chain_from.Given as goal

abbrev pub invariant-loop : goal.invariant-loop
invariant-loop l =
    (l.trips.items ++ follow (next_in l.links) (length l.outgoing - l.counter) l.following ≡ chain_from l.links (length l.outgoing) l.fn.first) ×
    IfSome l.following (λ t. t < length l.outgoing)
