-- None was short so far.
use Rattle.std.proofs.Common.{ℕ, ◌<◌}
use Rattle.inventory.specs.FirstIn.{IsNotShort}
use Rattle.inventory.proofs.ledger.Ledger.short_at.Given as goal

abbrev pub invariant-loop-place : goal.invariant-loop-place
invariant-loop-place l = (k : ℕ) → k < l.place → IsNotShort l.self.day l.self.lists l.station l.unit_type k
