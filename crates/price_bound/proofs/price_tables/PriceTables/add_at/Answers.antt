use Rattle.std.proofs.Common.{rules}
use Rattle.price_bound.proofs.price_tables.PriceTables.add_at.Goals as goal

pub returns-in-Sigma : goal.returns-in-Sigma
returns-in-Sigma c = search rules
