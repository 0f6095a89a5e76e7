-- No more than there are so far.
use Rattle.std.proofs.Common.{◌≤◌}
use Rattle.fleet_size.proofs.offers.leaving_before.Given as goal

abbrev pub invariant-loop-other : goal.invariant-loop-other
invariant-loop-other l = l.before ≤ l.other
