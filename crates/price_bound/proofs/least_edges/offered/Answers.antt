-- Nothing is offered below the first composition that has a cell.
use Rattle.price_bound.proofs.EdgeGroups.{offer_place}
use Rattle.price_bound.proofs.least_edges.offered.Goals as goal

pub least_from-requires-clause-begin : goal.least_from-requires-clause-begin
least_from-requires-clause-begin g c =
    offer_place c.args.edges.now c.args.ahead.now c.args.comp c.begin.result c.halved_from-begin.result c.begin.ensures c.halved_from-begin.ensures
