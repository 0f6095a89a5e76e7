-- The row of the trip has the costs.
use Rattle.std.proofs.Common.{pos, ap, arith, get_or, ◌∙◌}
use Rattle.price_bound.specs.Costs.{cost_in}
use Rattle.price_bound.proofs.TripAndLinkPrices.{cost_at, cost_small, costs_long}
use Rattle.price_bound.proofs.priced_costs.PricedCosts.cost.Goals as goal

pub amount_for-requires : goal.amount_for-requires
amount_for-requires c = omega (
  arith,
  c.requires.comp,
  costs_long c.args.self.now.pricing.now c.requires.is.priced c.args.self.now.trip c.requires.is.known c.args.self.now.costs.now
      c.requires.is.costs,
)

pub returns-clause-value : goal.returns-clause-value
returns-clause-value c =
    c.cost_in.ensures ∙ (ap cost_in c.amount_for.ensures ∙ (cost_at c.args.self.now.pricing.now c.requires.is.priced c.args.self.now.trip
    c.requires.is.known c.args.self.now.costs.now c.requires.is.costs c.args.comp c.requires.comp).is)

pub returns-clause-small : goal.returns-clause-small
returns-clause-small c =
    cost_small c.cost_in.result (get_or c.args.self.now.costs.now c.args.comp (pos 0)) (c.cost_in.ensures ∙ ap cost_in c.amount_for.ensures)
    (cost_at c.args.self.now.pricing.now c.requires.is.priced c.args.self.now.trip c.requires.is.known c.args.self.now.costs.now
    c.requires.is.costs c.args.comp c.requires.comp).small
