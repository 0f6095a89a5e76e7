-- The row of the link has the multipliers.
use Rattle.std.proofs.Common.{arith, sym, subst, ◌∙◌}
use Rattle.price_bound.specs.CellSizes.{IsSmall}
use Rattle.price_bound.proofs.TripAndLinkPrices.{part_at, part_at_small, parts_long}
use Rattle.price_bound.proofs.part_prices.PartPrices.multiplier.Goals as goal

pub amount_for-requires : goal.amount_for-requires
amount_for-requires c = omega (
  arith,
  c.requires.part,
  parts_long c.args.self.now.pricing.now c.requires.is.priced c.args.self.now.link c.requires.is.known
      c.args.self.now.multipliers.now c.requires.is.multipliers,
)

pub returns-clause-value : goal.returns-clause-value
returns-clause-value c =
    c.amount_for.ensures ∙ part_at c.args.self.now.pricing.now c.requires.is.priced c.args.self.now.link c.requires.is.known
    c.args.self.now.multipliers.now c.requires.is.multipliers c.args.part c.requires.part

pub returns-clause-small : goal.returns-clause-small
returns-clause-small c =
    subst (IsSmall 13000000000000000) (sym c.amount_for.ensures)
    (part_at_small c.args.self.now.pricing.now c.requires.is.priced c.args.self.now.link c.requires.is.known
    c.args.self.now.multipliers.now c.requires.is.multipliers c.args.part c.requires.part)
