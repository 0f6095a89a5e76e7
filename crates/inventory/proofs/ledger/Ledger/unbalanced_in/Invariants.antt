-- All were balanced so far.
use Rattle.std.proofs.Common.{ℕ, ◌<◌}
use Rattle.inventory.specs.FirstIn.{IsBalanced}
use Rattle.inventory.proofs.ledger.Ledger.unbalanced_in.Given as goal

abbrev pub invariant-loop-unit_type : goal.invariant-loop-unit_type
invariant-loop-unit_type l = (k : ℕ) → k < l.unit_type → IsBalanced l.self.day l.self.lists l.station k
