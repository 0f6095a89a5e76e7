-- The row of the trip has the multipliers.
use Rattle.std.proofs.Common.{arith, sym, subst, ◌∙◌}
use Rattle.price_bound.specs.CellSizes.{IsSmall, most_price}
use Rattle.price_bound.proofs.TripAndLinkPrices.{second_at, second_at_small, seconds_long}
use Rattle.price_bound.proofs.priced_costs.PricedCosts.second.Goals as goal

pub amount_for-requires : goal.amount_for-requires
amount_for-requires c = omega (
  arith,
  c.requires.comp,
  seconds_long c.args.self.now.pricing.now c.requires.is.priced c.args.self.now.trip c.requires.is.known c.args.self.now.seconds.now
      c.requires.is.seconds,
)

pub returns-clause-value : goal.returns-clause-value
returns-clause-value c =
    c.amount_for.ensures ∙ second_at c.args.self.now.pricing.now c.requires.is.priced c.args.self.now.trip c.requires.is.known
    c.args.self.now.seconds.now c.requires.is.seconds c.args.comp c.requires.comp

pub returns-clause-small : goal.returns-clause-small
returns-clause-small c =
    subst (IsSmall most_price) (sym c.amount_for.ensures)
    (second_at_small c.args.self.now.pricing.now c.requires.is.priced c.args.self.now.trip c.requires.is.known
    c.args.self.now.seconds.now c.requires.is.seconds c.args.comp c.requires.comp)
