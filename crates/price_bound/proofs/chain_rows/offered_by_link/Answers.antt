-- The cell is that of the edges of the link.
use Rattle.std.proofs.Common.{ℕ, Some, ap, ◌∙◌}
use Rattle.price_bound.specs.declared.priced.Pricing.{Pricing}
use Rattle.price_bound.specs.CellRows.{offered_from}
use Rattle.price_bound.specs.Pricing.{priced_by}
use Rattle.price_bound.proofs.chain_rows.offered_by_link.Goals as goal

pub returns-in-None : goal.returns-in-None
returns-in-None c =
    c.offered.ensures
    ∙ ap (λ (p : Pricing). offered_from (priced_by p) (Some c.new-prices.result.link) c.args.ahead.now c.args.comp) c.new-prices.ensures.pricing
    ∙ ap (λ (l : ℕ). offered_from (priced_by c.args.pricing.now) (Some l) c.args.ahead.now c.args.comp) c.new-prices.ensures.link

pub returns-in-Some : goal.returns-in-Some
returns-in-Some c =
    c.offered-in-Some.ensures
    ∙ ap (λ (p : Pricing). offered_from (priced_by p) (Some c.new-prices-in-Some.result.link) c.args.ahead.now c.args.comp) c.new-prices-in-Some.ensures.pricing
    ∙ ap (λ (l : ℕ). offered_from (priced_by c.args.pricing.now) (Some l) c.args.ahead.now c.args.comp) c.new-prices-in-Some.ensures.link
