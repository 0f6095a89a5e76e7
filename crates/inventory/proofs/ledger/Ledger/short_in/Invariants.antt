-- None was short so far.
use Rattle.std.proofs.Common.{ℕ, ◌<◌}
use Rattle.inventory.specs.FirstIn.{NoneShortAt}
use Rattle.inventory.proofs.ledger.Ledger.short_in.Given as goal

abbrev pub invariant-loop-unit_type : goal.invariant-loop-unit_type
invariant-loop-unit_type l = (k : ℕ) → k < l.unit_type → NoneShortAt l.self.day l.self.lists l.station k
