-- The cells of the members are those of the row, and no other composition has one.
use Rattle.std.proofs.Common.{◌≡◌, ℕ, ◌+◌, List, Option, Some, sym, ap, ◌∙◌, arith}
use Rattle.price_bound.specs.declared.cells.Cell.{Cell}
use Rattle.price_bound.specs.declared.priced_costs.PricedCosts.{PricedCosts}
use Rattle.price_bound.specs.CellRows.{bare, comps_of, offered_from, row_on}
use Rattle.price_bound.specs.ChainStages.{Priced, priced_cost_of}
use Rattle.price_bound.specs.Paths.{with_priced_cost}
use Rattle.price_bound.specs.Pricing.{priced_by}
use Rattle.price_bound.specs.RowValues.{HasCells, IsStepOn, edge_cell}
use Rattle.timetable.specs.Links.{outgoing}
use Rattle.price_bound.proofs.EdgeGroups.{IsFilled, IsStepFrom, cell_on, few_at, filled_all, row_cell, row_long}
use Rattle.price_bound.proofs.least_edges.fill_by_members.Goals as goal

filled : (priced : Priced) (link : ℕ) (costs : PricedCosts) (ahead row : List (Option Cell)) → priced_by costs.pricing.now ≡ priced
    → outgoing priced.day costs.trip ≡ Some link
    → HasCells (comps_of (priced_by costs.pricing.now)) (edge_cell costs link ahead) (IsStepOn ahead) row
    → IsFilled (comps_of priced) (cell_on priced costs.trip ahead) (IsStepFrom ahead) (comps_of priced) row
filled priced link costs ahead row same leads has =
    let comps : comps_of (priced_by costs.pricing.now) ≡ comps_of priced = ap (λ (p : Priced). comps_of p) same in
    record {
      long = has.long ∙ comps;
      cells = λ comp below. has.cells comp (omega (arith, below, comps)) ∙ ap bare
          (ap (λ (p : Priced). with_priced_cost (priced_cost_of p costs.trip comp) (offered_from p (Some link) ahead comp)) same
          ∙ ap (λ (l : Option ℕ). with_priced_cost (priced_cost_of priced costs.trip comp) (offered_from priced l ahead comp)) (sym leads));
      few = λ comp below. has.few comp (omega (arith, below, comps));
    }

pub returns-clause-row : goal.returns-clause-row
returns-clause-row g c =
    let priced : Priced = g.P.EdgePrices.priced c.args.prices.now in
    let trip : ℕ = c.args.priced_costs.now.trip in
    filled_all (comps_of priced) (cell_on priced trip c.args.ahead.now) (IsStepFrom c.args.ahead.now) (comps_of priced) c.fill.new.self
    (row_on priced trip c.args.ahead.now)
    (filled priced (g.P.EdgePrices.link c.args.prices.now) c.args.priced_costs.now c.args.ahead.now c.fill.new.self c.requires.priced
    c.requires.link c.fill.ensures)
    (omega arith) (row_long priced trip c.args.ahead.now) (row_cell priced trip c.args.ahead.now)

pub returns-clause-small : goal.returns-clause-small
returns-clause-small g c bound each k it at =
    let priced : Priced = g.P.EdgePrices.priced c.args.prices.now in
    let trip : ℕ = c.args.priced_costs.now.trip in
    few_at (comps_of priced) (cell_on priced trip c.args.ahead.now) (IsStepFrom c.args.ahead.now) (comps_of priced) c.fill.new.self
    (bound + 21000000000000000) k it
    (filled priced (g.P.EdgePrices.link c.args.prices.now) c.args.priced_costs.now c.args.ahead.now c.fill.new.self c.requires.priced
    c.requires.link c.fill.ensures)
    (omega arith) (λ o few. few bound each) at
