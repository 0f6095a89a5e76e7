-- Each value stands for no cell.
use Rattle.std.proofs.Common.{◌≡◌, map, replicate, ap, ◌∙◌, rules}
use Rattle.price_bound.specs.CellRows.{cell_in}
use Rattle.price_bound.proofs.CellValues.{no_value, none_in}
use Rattle.price_bound.proofs.cells.CellRow.new.Goals as goal

pub returns : goal.returns
returns c =
    let items : c.in_ok-vec.field-0.items ≡ replicate c.args.comps no_value = search rules in
    ap (map cell_in) items ∙ none_in c.args.comps
