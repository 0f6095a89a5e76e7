-- No composition before the range has a value.
use Rattle.price_bound.proofs.CellValues.{no_cell}
use Rattle.price_bound.proofs.cells.CellRow.begin.Goals as goal

pub returns : goal.returns
returns c comp out = no_cell c.self.inside.values.items c.args.self.now comp c.self.view_is (c.self.invariant.1.before comp out)
