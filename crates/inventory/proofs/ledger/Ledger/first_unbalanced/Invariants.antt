-- All were balanced so far.
use Rattle.std.proofs.Common.{ℕ, ◌<◌}
use Rattle.inventory.specs.FirstIn.{AllBalancedIn}
use Rattle.inventory.proofs.ledger.Ledger.first_unbalanced.Given as goal

abbrev pub invariant-loop-station : goal.invariant-loop-station
invariant-loop-station l = (k : ℕ) → k < l.station → AllBalancedIn l.self.day l.self.lists k
