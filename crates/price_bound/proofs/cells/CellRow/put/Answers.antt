-- The value that is put stands for the cell.
use Rattle.std.proofs.Common.{◌≡◌, to_z, of_z, w64, rules}
use Rattle.price_bound.specs.CellRows.{bare}
use Rattle.price_bound.proofs.CellValues.{value_put}
use Rattle.price_bound.proofs.cells.CellRow.put.Goals as goal

pub returns : goal.returns
returns c =
    let read : to_z w64 (of_z w64 c.value_of.result) ≡ c.value_of.result = search rules in
    value_put c.self.inside.values.items c.args.self.now c.place.result c.args.comp (to_z w64 (of_z w64 c.value_of.result))
    c.value_of.result (bare c.args.cell) read c.self.view_is c.place.ensures.number c.value_of.ensures.cell
