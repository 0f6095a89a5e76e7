-- The least cell is small, and so it is with its priced cost.
use Rattle.std.proofs.Common.{◌≡◌, ◌+◌, Bool, false, ap, ◌∙◌, subst, arith}
use Rattle.std.specs.Prelude.{is_none}
use Rattle.timetable.specs.Links.{outgoing}
use Rattle.price_bound.specs.CellSizes.{IsSmall, most_priced_cost}
use Rattle.price_bound.specs.ChainStages.{Priced}
use Rattle.price_bound.proofs.EdgeGroups.{offer_place, priced_cost_step, some_more}
use Rattle.price_bound.proofs.least_edges.least_with_priced_cost.Goals as goal

pub least_from-least-requires-clause-begin : goal.least_from-least-requires-clause-begin
least_from-least-requires-clause-begin g c =
    offer_place c.args.edges.now c.args.ahead.now c.args.comp c.begin.result c.first_from-first.result c.begin.ensures c.first_from-first.ensures

pub with_priced_cost-requires-clause-cell : goal.with_priced_cost-requires-clause-cell
with_priced_cost-requires-clause-cell g c =
    some_more (8500000000000000000 + 13000000000000000) 9000000000000000000 c.least_from-least.result.cell (omega arith)
    (c.least_from-least.ensures.small 8500000000000000000 c.requires.small)

pub returns-clause-small : goal.returns-clause-small
returns-clause-small g c bound each =
    let leads : is_none (outgoing c.args.priced_costs.now.pricing.now.instance.now c.args.priced_costs.now.trip) ≡ false =
    ap is_none (ap (λ (priced : Priced). outgoing priced.day c.args.priced_costs.now.trip) c.requires.priced ∙ c.requires.link) in
    let few : IsSmall 8000000000000000 c.in-Some.priced_cost.0 =
    subst (λ (ends : Bool). IsSmall (most_priced_cost ends) c.in-Some.priced_cost.0) leads c.in-Some.ensures.small in
    priced_cost_step bound c.in-Some.priced_cost.0 c.least_from-least.result.cell c.with_priced_cost.result c.with_priced_cost.ensures few
    (c.least_from-least.ensures.small bound each)
