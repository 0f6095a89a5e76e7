-- An edge is priced by the prices of its two compositions, where it does not uncouple and couple at once, and else by what
-- comes with it.
use Rattle.std.proofs.Common.{Some, ℤ, ap, sym, ◌∙◌}
use Rattle.price_bound.proofs.TripAndLinkPrices.{coupling_priced, keeping_priced, turn_priced, uncoupling_priced}
use Rattle.price_bound.proofs.turn_prices.TurnPricesEdgePrices.price.Goals as goal

pub returns-in-Keep-clause-value : goal.returns-in-Keep-clause-value
returns-in-Keep-clause-value c = sym (keeping_priced c.args.self.now c.requires.is c.args.edge.now c.requires.allowed c.in-Keep.is)

pub returns-in-Uncouple-clause-value : goal.returns-in-Uncouple-clause-value
returns-in-Uncouple-clause-value c =
    ap (λ (z : ℤ). Some z) c.uncoupling_price.ensures.value
    ∙ sym (uncoupling_priced c.args.self.now c.requires.is c.args.edge.now c.requires.allowed c.in-Uncouple.units c.in-Uncouple.is)

pub returns-in-Couple-clause-value : goal.returns-in-Couple-clause-value
returns-in-Couple-clause-value c =
    ap (λ (z : ℤ). Some z) c.coupling_price.ensures.value
    ∙ sym (coupling_priced c.args.self.now c.requires.is c.args.edge.now c.requires.allowed c.in-Couple.units c.in-Couple.is)

pub returns-in-Exchange-clause-value : goal.returns-in-Exchange-clause-value
returns-in-Exchange-clause-value c =
    ap (λ (z : ℤ). Some z) c.parted_price.ensures.value ∙ sym (turn_priced c.args.self.now c.requires.is c.args.edge.now)
