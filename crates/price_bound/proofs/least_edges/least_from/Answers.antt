-- The edges from the composition offer their cells one after another.
use Rattle.std.proofs.Common.{◌≡◌, ℕ, suc, ◌+◌, get_or, sym, subst, arith, ◌∙◌, inr, refl}
use Rattle.std.proofs.lemmas.Bool.{false≢true}
use Rattle.price_bound.specs.CellRows.{held_cell}
use Rattle.price_bound.specs.ChainStages.{Priced}
use Rattle.price_bound.specs.EdgeGroups.{IsInGroup}
use Rattle.price_bound.proofs.ChainCells.{edge_at_listed}
use Rattle.price_bound.proofs.EdgeGroups.{IsLeastSoFar, least_begins, least_ends, least_more, some_more}
use Rattle.price_bound.proofs.least_edges.least_from.Goals as goal

pub loop-comp-init : goal.loop-comp-init
loop-comp-init g c = record {
  least = least_begins (g.P.EdgePrices.priced c.args.prices.now) (g.P.EdgePrices.link c.args.prices.now) c.args.edges.now c.args.ahead.now
      c.args.comp c.args.begin c.requires.comp c.requires.begin;
  held = inr refl;
}

pub offer_at-offer-requires-clause-edge : goal.offer_at-offer-requires-clause-edge
offer_at-offer-requires-clause-edge g c =
    let priced : Priced = g.P.EdgePrices.priced c.args.prices.now in
    let is : IsInGroup c.args.edges.now c.args.comp c.end-end.result c.loop-comp.place = c.is_in_group.ensures.0 c.loop-comp-test.true in
    edge_at_listed priced.day priced.graphs (g.P.EdgePrices.link c.args.prices.now) c.args.edges.now
    c.index-edges-place.result c.requires.graphs c.requires.edges (c.loop-comp.place, is.within, sym c.index-edges-place.is)

pub lower_held-least-requires-clause-other : goal.lower_held-least-requires-clause-other
lower_held-least-requires-clause-other g c =
    some_more (8500000000000000000 + 13000000000000000) 9000000000000000000 c.offer_at-offer.result (omega arith)
    (c.offer_at-offer.ensures.small 8500000000000000000 c.requires.small)

pub loop-comp-preserved : goal.loop-comp-preserved
loop-comp-preserved g c =
    let priced : Priced = g.P.EdgePrices.priced c.args.prices.now in
    let link : ℕ = g.P.EdgePrices.link c.args.prices.now in
    let next : suc c.loop-comp.place ≡ c.loop-comp.place + 1 = omega arith in
    let there : c.index-edges-place.result ≡ get_or c.args.edges.now c.loop-comp.place c.index-edges-place.result =
    c.index-edges-place.is in
    let is : IsInGroup c.args.edges.now c.args.comp c.end-end.result c.loop-comp.place = c.is_in_group.ensures.0 c.loop-comp-test.true in
    record {
      least = subst (λ (k : ℕ). IsLeastSoFar priced link c.args.edges.now c.args.ahead.now c.args.comp c.args.begin k (held_cell c.lower_held-least.result)) next
          (least_more priced link c.args.edges.now c.args.ahead.now c.args.comp c.args.begin c.loop-comp.place (held_cell c.loop-comp.least)
          c.requires.comp c.loop-comp.invariant.least is.within is.here c.index-edges-place.result there
          c.offer_at-offer.result (held_cell c.lower_held-least.result) c.offer_at-offer.ensures.value c.offer_at-offer.ensures.small
          c.lower_held-least.ensures.lower);
      held = c.lower_held-least.ensures.held;
    }

pub returns-clause-cell : goal.returns-clause-cell
returns-clause-cell g c =
    let priced : Priced = g.P.EdgePrices.priced c.args.prices.now in
    c.held_cell.ensures
    ∙ least_ends priced (g.P.EdgePrices.link c.args.prices.now) c.args.edges.now c.args.ahead.now c.args.comp c.args.begin c.end-end.result
    c.loop-comp.place (held_cell c.loop-comp.least) c.requires.graphs c.requires.edges c.requires.comp c.end-end.ensures.none c.requires.begin
    c.loop-comp.invariant.least
    (λ is. false≢true (sym c.loop-comp-test.false ∙ c.is_in_group.ensures.1 is))
