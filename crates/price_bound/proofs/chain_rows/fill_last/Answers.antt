-- The cells are those of the row.
use Rattle.std.proofs.Common.{ℕ, ap, ◌∙◌, arith}
use Rattle.price_bound.specs.declared.priced.Pricing.{Pricing}
use Rattle.price_bound.specs.CellRows.{all_bare, comps_of, last_row_on}
use Rattle.price_bound.specs.ChainStages.{Priced}
use Rattle.price_bound.specs.Pricing.{priced_by}
use Rattle.price_bound.proofs.EdgeGroups.{IsOneStep, filled_all, last_cell, last_cell_on, last_long}
use Rattle.price_bound.proofs.chain_rows.fill_last.Goals as goal

pub returns-clause-row : goal.returns-clause-row
returns-clause-row c =
    let priced : Priced = priced_by c.new-priced_costs.result.pricing.now in
    let trip : ℕ = c.new-priced_costs.result.trip in
    filled_all (comps_of priced) (last_cell_on priced trip) IsOneStep (comps_of priced) c.fill.new.self (last_row_on priced trip)
    (record { long = c.fill.ensures.long; cells = c.fill.ensures.cells; few = c.fill.ensures.few }) (omega arith)
    (last_long priced trip) (last_cell priced trip)
    ∙ ap (λ (pricing : Pricing). all_bare (last_row_on (priced_by pricing) trip)) c.new-priced_costs.ensures.pricing
    ∙ ap (λ (t : ℕ). all_bare (last_row_on (priced_by c.args.pricing.now) t)) c.new-priced_costs.ensures.trip
