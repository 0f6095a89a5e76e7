use Rattle.std.proofs.Common.{rules}
use Rattle.inventory.proofs.ledger.Ledger.first_fault.Goals as goal

pub returns-in-Some : goal.returns-in-Some
returns-in-Some c = search rules
