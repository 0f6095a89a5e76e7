-- One for each so far.
use Rattle.std.proofs.Common.{◌≡◌, length}
use Rattle.fleet_size.proofs.offers.leaving_alone.Given as goal

abbrev pub invariant-loop-place : goal.invariant-loop-place
invariant-loop-place l = length l.list.items ≡ l.place
