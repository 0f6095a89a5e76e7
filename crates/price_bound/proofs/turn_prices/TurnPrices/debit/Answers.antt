-- The row of the departing trip has the debits, or they are summed by its prices of units.
use Rattle.std.proofs.Common.{ap, ◌∙◌}
use Rattle.price_bound.specs.YardPrices.{taking}
use Rattle.price_bound.proofs.TripAndLinkPrices.{taken_at, takes_row_small}
use Rattle.price_bound.proofs.turn_prices.TurnPrices.debit.Goals as goal

pub sum_in-requires-clause-small : goal.sum_in-requires-clause-small
sum_in-requires-clause-small c =
    takes_row_small c.args.self.now.pricing.now c.requires.is.priced c.args.self.now.turn.departing c.requires.is.turn.departing c.args.self.now.takes.now
    c.requires.is.takes

pub returns-clause-value : goal.returns-clause-value
returns-clause-value c =
    c.sum_in.ensures.value
    ∙ taken_at c.args.self.now.pricing.now c.requires.is.priced c.args.self.now.turn.departing c.requires.is.turn.departing c.args.self.now.takes.now c.requires.is.takes
    c.types_of.result.now c.types_of.ensures.known
    ∙ ap (taking c.args.self.now.pricing.now.instance.now c.args.self.now.pricing.now.multipliers.now c.args.self.now.turn.departing) c.types_of.ensures.value
