use Rattle.std.proofs.Common.{rules}
use Rattle.price_bound.proofs.turn_prices.coupled.Goals as goal

pub returns-in-Exchange : goal.returns-in-Exchange
returns-in-Exchange c = search rules
