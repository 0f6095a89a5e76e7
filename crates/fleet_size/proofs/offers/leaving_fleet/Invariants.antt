-- One for each so far.
use Rattle.std.proofs.Common.{◌≡◌, length}
use Rattle.fleet_size.proofs.offers.leaving_fleet.Given as goal

abbrev pub invariant-loop-place : goal.invariant-loop-place
invariant-loop-place l = length l.counts.items ≡ l.place
