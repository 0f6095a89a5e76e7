-- The chains of the trips so far.
use Rattle.std.proofs.Common.{◌≡◌, length}
use Rattle.timetable.specs.Chains.{chains_below}
use Rattle.timetable.proofs.day.chains.chains_of.Given as goal

abbrev pub invariant-loop-trip : goal.invariant-loop-trip
invariant-loop-trip l = l.chains.items ≡ chains_below l.links (length l.outgoing) l.trip
