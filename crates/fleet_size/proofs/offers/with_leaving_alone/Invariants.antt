-- One for each so far.
use Rattle.std.proofs.Common.{◌≡◌, length}
use Rattle.fleet_size.proofs.offers.with_leaving_alone.Given as goal

abbrev pub invariant-loop-trip : goal.invariant-loop-trip
invariant-loop-trip l = length l.lists.items ≡ l.trip
