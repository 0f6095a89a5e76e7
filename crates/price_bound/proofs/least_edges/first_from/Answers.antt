-- The place that was tried first is right.
use Rattle.price_bound.proofs.EdgeGroups.{place_at}
use Rattle.price_bound.proofs.least_edges.first_from.Goals as goal

pub returns-then-begins_at : goal.returns-then-begins_at
returns-then-begins_at c =
    place_at c.args.edges.now c.args.comp c.args.to c.args.hint c.requires (c.begins_at.ensures c.if-begins_at.true)
