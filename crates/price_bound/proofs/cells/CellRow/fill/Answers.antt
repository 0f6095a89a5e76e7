-- The values stand for the cells.
use Rattle.std.proofs.Common.{◌≡◌, ℤ, List, length, map, sym, ap, ◌∙◌, subst}
use Rattle.std.proofs.lemmas.List.{length-map, with_items_is}
use Rattle.price_bound.specs.CellRows.{cell_in}
use Rattle.price_bound.specs.RowValues.{HasCells}
use Rattle.price_bound.proofs.RowValues.{filled_cells}
use Rattle.price_bound.proofs.cells.CellRow.fill.Goals as goal

pub returns : goal.returns
returns g c =
    let long : length c.put_row-self-inside.new.row ≡ length c.self.inside.values.items =
    c.put_row-self-inside.ensures.filled.long ∙ sym c.requires.row ∙ sym (ap length c.self.view_is) ∙ length-map c.self.inside.values.items cell_in in
    subst (λ (values : List ℤ). HasCells (g.V.RowValues.comps c.args.values.now) (g.V.RowValues.cell c.args.values.now)
    (g.V.RowValues.IsFew c.args.values.now) (map cell_in values))
    (sym (with_items_is c.self.inside.values c.put_row-self-inside.new.row (long ∙ sym c.self.inside.values.ok.0)))
    (filled_cells (g.V.RowValues.comps c.args.values.now) (g.V.RowValues.cell c.args.values.now) (g.V.RowValues.IsFew c.args.values.now)
    c.put_row-self-inside.new.row c.put_row-self-inside.ensures.filled)
