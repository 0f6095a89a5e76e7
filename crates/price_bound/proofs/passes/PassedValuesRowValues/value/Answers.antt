-- The cell is a step from those ahead.
use Rattle.std.proofs.Common.{◌≡◌, ◌+◌, Option, IfSome, to_z, of_z, w64, rules, sym, ap, ◌∙◌, subst, arith}
use Rattle.price_bound.specs.declared.cells.Cell.{Cell}
use Rattle.price_bound.specs.CellRows.{cell_in}
use Rattle.price_bound.specs.CellSizes.{IsSmall}
use Rattle.price_bound.proofs.ChainCells.{bare_small}
use Rattle.price_bound.proofs.EdgeGroups.{some_more}
use Rattle.price_bound.proofs.passes.PassedValuesRowValues.value.Goals as goal

pub value_of-requires : goal.value_of-requires
value_of-requires c =
    some_more (8500000000000000000 + 21000000000000000) 9000000000000000000 c.passed_with_priced_cost-cell.result (omega arith)
    (c.passed_with_priced_cost-cell.ensures.small 8500000000000000000
    (c.requires.are.few c.args.comp 8500000000000000000 c.requires.comp c.requires.are.ahead))

pub returns-clause-few : goal.returns-clause-few
returns-clause-few c bound each =
    let read : to_z w64 (of_z w64 c.value_of.result) ≡ c.value_of.result = search rules in
    subst (λ (o : Option Cell). IfSome o (λ it. IsSmall (bound + 21000000000000000) it.value)) (sym (ap cell_in read ∙ c.value_of.ensures.cell))
    (bare_small (bound + 21000000000000000) c.passed_with_priced_cost-cell.result
    (c.passed_with_priced_cost-cell.ensures.small bound (c.requires.are.few c.args.comp bound c.requires.comp each)))
