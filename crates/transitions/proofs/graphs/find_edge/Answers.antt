-- The search answers the place of an edge between the two compositions, or that there is none.
use Rattle.std.proofs.Common.{rules}
use Rattle.std.proofs.lemmas.Fn.{always_returns_same}
use Rattle.transitions.specs.Between.{order_to}
use Rattle.transitions.proofs.Listing.{edge_found}
use Rattle.transitions.proofs.Searching.{place_found, place_missing}
use Rattle.transitions.proofs.graphs.find_edge.Goals as goal

pub returns-in-Ok : goal.returns-in-Ok
returns-in-Ok c =
    let here = c.in-Ok.ensures.position (order_to c.args.from c.args.to) (always_returns_same _ _ _ (λ a r f called. search rules)) in
    edge_found c.args.edges.now c.requires c.args.from c.args.to c.in-Ok.place c.index-edges-place.result c.in-Ok.ensures.bound c.index-edges-place.is
    (place_found c.args.edges.now c.requires c.args.from c.args.to c.in-Ok.place c.index-edges-place.result c.index-edges-place.is here)

pub returns-in-Err : goal.returns-in-Err
returns-in-Err c = λ edge.
    let parted = c.in-Err.ensures.position (order_to c.args.from c.args.to) (always_returns_same _ _ _ (λ a r f called. search rules)) in
    (λ some. absurd cc, λ there. absurd (place_missing c.args.edges.now c.requires c.args.from c.args.to c.in-Err.field-0 parted edge there.0 there.1))
