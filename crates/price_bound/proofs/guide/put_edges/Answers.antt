-- An edge that is listed is allowed, and has compositions of the catalogue.
use Rattle.std.proofs.Common.{sym}
use Rattle.price_bound.specs.ChainStages.{Priced}
use Rattle.price_bound.proofs.ChainCells.{edge_at_allowed, edge_at_listed}
use Rattle.price_bound.proofs.guide.put_edges.Goals as goal

pub price-requires-clause-edge : goal.price-requires-clause-edge
price-requires-clause-edge g c =
    let priced : Priced = g.P.EdgePrices.priced c.args.prices.now in
    edge_at_listed priced.day priced.graphs (g.P.EdgePrices.link c.args.prices.now) c.args.edges.now
    c.index-edges-place.result c.requires.graphs c.requires.edges
    (c.loop-place.place, c.loop-place-test.true, sym c.index-edges-place.is)

pub price-requires-clause-allowed : goal.price-requires-clause-allowed
price-requires-clause-allowed g c =
    let priced : Priced = g.P.EdgePrices.priced c.args.prices.now in
    edge_at_allowed priced.day priced.graphs (g.P.EdgePrices.link c.args.prices.now) c.args.edges.now
    c.index-edges-place.result c.requires.graphs c.requires.edges
    (c.loop-place.place, c.loop-place-test.true, sym c.index-edges-place.is)
