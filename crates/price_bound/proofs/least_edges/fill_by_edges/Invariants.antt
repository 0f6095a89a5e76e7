-- The cells so far are made.
use Rattle.price_bound.specs.CellRows.{comps_of}
use Rattle.price_bound.proofs.EdgeGroups.{IsFilled, IsStepFrom, cell_on}
use Rattle.price_bound.proofs.least_edges.fill_by_edges.Given as goal

abbrev pub invariant-loop-comp : goal.invariant-loop-comp
invariant-loop-comp g l =
    IsFilled (comps_of (g.P.EdgePrices.priced l.prices)) (cell_on (g.P.EdgePrices.priced l.prices) l.priced_costs.trip l.ahead)
    (IsStepFrom l.ahead) l.comp l.row
