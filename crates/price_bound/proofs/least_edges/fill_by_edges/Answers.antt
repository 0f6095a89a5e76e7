-- One cell more is made.
use Rattle.std.proofs.Common.{◌≡◌, ◌<◌, ℕ, suc, ◌+◌, Option, length, sym, ap, ◌∙◌, subst, arith}
use Rattle.timetable.specs.Compositions.{compositions_of}
use Rattle.price_bound.specs.CellRows.{comps_of, offered_from, row_on}
use Rattle.price_bound.specs.ChainStages.{Priced, priced_cost_of}
use Rattle.price_bound.specs.Paths.{with_priced_cost}
use Rattle.price_bound.proofs.ChainCells.{bare_small}
use Rattle.price_bound.proofs.EdgeGroups.{IsFilled, IsStepFrom, cell_on, few_at, filled_all, filled_more, filled_none}
use Rattle.price_bound.proofs.EdgeGroups.{row_cell, row_long, some_more}
use Rattle.price_bound.proofs.least_edges.fill_by_edges.Goals as goal

pub loop-comp-init : goal.loop-comp-init
loop-comp-init g c =
    let priced : Priced = g.P.EdgePrices.priced c.args.prices.now in
    filled_none (comps_of priced) (cell_on priced c.args.priced_costs.now.trip c.args.ahead.now) (IsStepFrom c.args.ahead.now)
    c.args.row.now c.requires.row

pub put-requires-clause-small : goal.put-requires-clause-small
put-requires-clause-small g c =
    some_more (8500000000000000000 + 21000000000000000) 9000000000000000000 c.least_with_priced_cost-least.result.cell (omega arith)
    (c.least_with_priced_cost-least.ensures.small 8500000000000000000 c.requires.small)

pub loop-comp-preserved : goal.loop-comp-preserved
loop-comp-preserved g c =
    let priced : Priced = g.P.EdgePrices.priced c.args.prices.now in
    let trip : ℕ = c.args.priced_costs.now.trip in
    let comp : ℕ = c.loop-comp.comp in
    let next : suc comp ≡ comp + 1 = omega arith in
    let comps : length (compositions_of c.args.priced_costs.now.pricing.now.instance.now) ≡ comps_of priced =
    ap (λ (p : Priced). comps_of p) c.requires.priced in
    let below : comp < comps_of priced =
    omega (arith, ap length c.catalogue.ensures, c.loop-comp-test.true, c.len-comp-end.ensures.value, comps) in
    let cell : c.least_with_priced_cost-least.result.cell ≡ cell_on priced trip c.args.ahead.now comp =
    c.least_with_priced_cost-least.ensures.cell
    ∙ ap (λ (link : Option ℕ). with_priced_cost (priced_cost_of priced trip comp) (offered_from priced link c.args.ahead.now comp)) (sym c.requires.link) in
    subst (λ (k : ℕ). IsFilled (comps_of priced) (cell_on priced trip c.args.ahead.now) (IsStepFrom c.args.ahead.now) k c.put.new.self) next
    (filled_more (comps_of priced) (cell_on priced trip c.args.ahead.now) (IsStepFrom c.args.ahead.now) comp c.loop-comp.row c.put.new.self
    c.least_with_priced_cost-least.result.cell c.loop-comp.invariant below c.put.ensures cell
    (λ bound each. bare_small (bound + 21000000000000000) c.least_with_priced_cost-least.result.cell
    (c.least_with_priced_cost-least.ensures.small bound each)))

pub returns-clause-row : goal.returns-clause-row
returns-clause-row g c =
    let priced : Priced = g.P.EdgePrices.priced c.args.prices.now in
    let trip : ℕ = c.args.priced_costs.now.trip in
    let comps : length (compositions_of c.args.priced_costs.now.pricing.now.instance.now) ≡ comps_of priced =
    ap (λ (p : Priced). comps_of p) c.requires.priced in
    filled_all (comps_of priced) (cell_on priced trip c.args.ahead.now) (IsStepFrom c.args.ahead.now) c.loop-comp.comp c.loop-comp.row
    (row_on priced trip c.args.ahead.now) c.loop-comp.invariant
    (omega (arith, ap length c.catalogue.ensures, c.loop-comp-test.false, c.len-comp-end.ensures.value, comps))
    (row_long priced trip c.args.ahead.now) (row_cell priced trip c.args.ahead.now)

pub returns-clause-small : goal.returns-clause-small
returns-clause-small g c bound each k it at =
    let priced : Priced = g.P.EdgePrices.priced c.args.prices.now in
    let trip : ℕ = c.args.priced_costs.now.trip in
    let comps : length (compositions_of c.args.priced_costs.now.pricing.now.instance.now) ≡ comps_of priced =
    ap (λ (p : Priced). comps_of p) c.requires.priced in
    few_at (comps_of priced) (cell_on priced trip c.args.ahead.now) (IsStepFrom c.args.ahead.now) c.loop-comp.comp c.loop-comp.row
    (bound + 21000000000000000) k it c.loop-comp.invariant
    (omega (arith, ap length c.catalogue.ensures, c.loop-comp-test.false, c.len-comp-end.ensures.value, comps))
    (λ o few. few bound each) at
