-- None was short so far.
use Rattle.std.proofs.Common.{ℕ, ◌<◌}
use Rattle.inventory.specs.FirstIn.{NoneShortIn}
use Rattle.inventory.proofs.ledger.Ledger.first_short.Given as goal

abbrev pub invariant-loop-station : goal.invariant-loop-station
invariant-loop-station l = (k : ℕ) → k < l.station → NoneShortIn l.self.day l.self.lists k
