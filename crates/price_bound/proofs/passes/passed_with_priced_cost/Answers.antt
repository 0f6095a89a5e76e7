-- The value is small with its priced cost.
use Rattle.std.proofs.Common.{◌≡◌, ◌+◌, Bool, Option, IfSome, arith, sym, subst, rules}
use Rattle.price_bound.specs.declared.cells.Cell.{Cell}
use Rattle.price_bound.specs.CellRows.{cell_in}
use Rattle.price_bound.specs.CellSizes.{IsSmall, most_priced_cost, most_step}
use Rattle.price_bound.specs.PassValues.{value_at}
use Rattle.price_bound.proofs.Adding.{small_more}
use Rattle.price_bound.proofs.EdgeGroups.{priced_cost_step}
use Rattle.price_bound.proofs.passes.passed_with_priced_cost.Goals as goal

pub with_priced_cost-requires-clause-priced_cost : goal.with_priced_cost-requires-clause-priced_cost
with_priced_cost-requires-clause-priced_cost c =
    small_more 8000000000000000 most_step c.in-Some.priced_cost.0 (omega arith)
    (subst (λ (ends : Bool). IsSmall (most_priced_cost ends) c.in-Some.priced_cost.0) c.requires.leads c.in-Some.ensures.small)

pub returns-clause-small : goal.returns-clause-small
returns-clause-small c bound each =
    let few : IsSmall 8000000000000000 c.in-Some.priced_cost.0 =
    subst (λ (ends : Bool). IsSmall (most_priced_cost ends) c.in-Some.priced_cost.0) c.requires.leads c.in-Some.ensures.small in
    let cell : c.cell_in.result ≡ cell_in (value_at c.args.values.now c.args.comp) = search rules in
    priced_cost_step bound c.in-Some.priced_cost.0 c.cell_in.result c.with_priced_cost.result c.with_priced_cost.ensures few
    (subst (λ (o : Option Cell). IfSome o (λ it. IsSmall (bound + 13000000000000000) it.value)) (sym cell)
    (each c.in-Some.priced_cost.0 (sym c.in-Some.ensures.value)))
