-- The cell of a member is that of the edges from it, and a step from those ahead.
use Rattle.std.proofs.Common.{◌≡◌, ◌+◌, Option, Some, IfSome, to_z, of_z, w64, rules, sym, ap, ◌∙◌, subst, arith}
use Rattle.price_bound.specs.declared.cells.Cell.{Cell}
use Rattle.price_bound.specs.CellRows.{bare, cell_in, offered_from}
use Rattle.price_bound.specs.CellSizes.{IsSmall}
use Rattle.price_bound.specs.ChainStages.{Priced, priced_cost_of}
use Rattle.price_bound.specs.Paths.{with_priced_cost}
use Rattle.price_bound.proofs.ChainCells.{bare_small}
use Rattle.price_bound.proofs.EdgeGroups.{some_more}
use Rattle.price_bound.proofs.least_edges.EdgeValuesRowValues.value.Goals as goal

pub value_of-requires : goal.value_of-requires
value_of-requires g c =
    some_more (8500000000000000000 + 21000000000000000) 9000000000000000000 c.least_with_priced_cost-least.result.cell (omega arith)
    (c.least_with_priced_cost-least.ensures.small 8500000000000000000 c.requires.are.small)

pub returns-clause-cell : goal.returns-clause-cell
returns-clause-cell g c =
    let read : to_z w64 (of_z w64 c.value_of.result) ≡ c.value_of.result = search rules in
    ap cell_in read ∙ c.value_of.ensures.cell
    ∙ ap bare (c.least_with_priced_cost-least.ensures.cell
    ∙ ap (λ (p : Priced). with_priced_cost (priced_cost_of p c.args.self.now.priced_costs.now.trip c.args.comp)
    (offered_from p (Some (g.P.EdgePrices.link c.args.self.now.prices.now)) c.args.self.now.ahead.now c.args.comp))
    (sym c.requires.are.priced_is))

pub returns-clause-few : goal.returns-clause-few
returns-clause-few g c bound each =
    let read : to_z w64 (of_z w64 c.value_of.result) ≡ c.value_of.result = search rules in
    subst (λ (o : Option Cell). IfSome o (λ it. IsSmall (bound + 21000000000000000) it.value)) (sym (ap cell_in read ∙ c.value_of.ensures.cell))
    (bare_small (bound + 21000000000000000) c.least_with_priced_cost-least.result.cell
    (c.least_with_priced_cost-least.ensures.small bound each))
