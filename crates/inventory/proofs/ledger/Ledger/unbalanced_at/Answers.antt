use Rattle.std.proofs.Common.{rules}
use Rattle.inventory.proofs.ledger.Ledger.unbalanced_at.Goals as goal

pub returns-then-count-from : goal.returns-then-count-from
returns-then-count-from c = search rules
