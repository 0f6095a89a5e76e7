-- The row of the arriving trip has the credits, or they are summed by its prices of units.
use Rattle.std.proofs.Common.{ap, ◌∙◌}
use Rattle.price_bound.specs.YardPrices.{giving}
use Rattle.price_bound.proofs.TripAndLinkPrices.{given_at, gives_row_small}
use Rattle.price_bound.proofs.turn_prices.TurnPrices.credit.Goals as goal

pub sum_in-requires-clause-small : goal.sum_in-requires-clause-small
sum_in-requires-clause-small c =
    gives_row_small c.args.self.now.pricing.now c.requires.is.priced c.args.self.now.turn.arriving c.requires.is.turn.arriving c.args.self.now.gives.now
    c.requires.is.gives

pub returns-clause-value : goal.returns-clause-value
returns-clause-value c =
    c.sum_in.ensures.value
    ∙ given_at c.args.self.now.pricing.now c.requires.is.priced c.args.self.now.turn.arriving c.requires.is.turn.arriving c.args.self.now.gives.now c.requires.is.gives
    c.types_of.result.now c.types_of.ensures.known
    ∙ ap (giving c.args.self.now.pricing.now.instance.now c.args.self.now.pricing.now.multipliers.now c.args.self.now.turn.arriving) c.types_of.ensures.value
