-- No more than there are so far.
use Rattle.std.proofs.Common.{◌≤◌}
use Rattle.fleet_size.proofs.offers.leaving_from.Given as goal

abbrev pub invariant-loop-number : goal.invariant-loop-number
invariant-loop-number l = l.count ≤ l.number
