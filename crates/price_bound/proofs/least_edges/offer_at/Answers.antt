-- The cell ahead, at the edge's price; and nothing, where there is none.
use Rattle.std.proofs.Common.{Option, Some, None, ℤ, get_or, sym, ap, ◌∙◌, arith}
use Rattle.price_bound.specs.ChainStages.{price_of}
use Rattle.price_bound.specs.Paths.{offer_by}
use Rattle.price_bound.proofs.Adding.{small_more}
use Rattle.price_bound.proofs.ChainCells.{nothing_ahead}
use Rattle.price_bound.proofs.least_edges.offer_at.Goals as goal

pub get-requires : goal.get-requires
get-requires g c = omega (arith, c.requires.edge.to, c.requires.ahead)

pub returns-in_default-clause-value : goal.returns-in_default-clause-value
returns-in_default-clause-value g c =
    nothing_ahead c.args.edge.now.to
    (price_of (g.P.EdgePrices.priced c.args.prices.now) (Some (g.P.EdgePrices.link c.args.prices.now)) c.args.edge.now)
    (get_or c.args.ahead.now c.args.edge.now.to None) (sym c.get.ensures ∙ c.in_default.is)

pub offer_by-requires-clause-ahead : goal.offer_by-requires-clause-ahead
offer_by-requires-clause-ahead g c =
    small_more 8500000000000000000 9000000000000000000 c.in-Some.cell.value (omega arith)
    (c.requires.small c.args.edge.now.to c.in-Some.cell (sym c.get.ensures ∙ c.in-Some.is))

pub returns-clause-value : goal.returns-clause-value
returns-clause-value g c =
    c.offer_by.ensures.value
    ∙ (ap (λ (o : Option ℤ). offer_by c.args.edge.now.to o (Some c.in-Some.cell)) c.price-price.ensures.value
    ∙ ap (offer_by c.args.edge.now.to
    (price_of (g.P.EdgePrices.priced c.args.prices.now) (Some (g.P.EdgePrices.link c.args.prices.now)) c.args.edge.now))
    (sym c.in-Some.is ∙ c.get.ensures))

pub returns-clause-small : goal.returns-clause-small
returns-clause-small g c bound each =
    c.offer_by.ensures.small bound (each c.args.edge.now.to c.in-Some.cell (sym c.get.ensures ∙ c.in-Some.is))
