-- No composition after the range has a value.
use Rattle.std.proofs.Common.{length, ap, sym, arith}
use Rattle.std.proofs.lemmas.List.{length-map}
use Rattle.price_bound.specs.CellRows.{cell_in}
use Rattle.price_bound.proofs.CellValues.{no_cell}
use Rattle.price_bound.proofs.cells.CellRow.end.Goals as goal

pub returns-clause-none : goal.returns-clause-none
returns-clause-none c comp out = no_cell c.self.inside.values.items c.args.self.now comp c.self.view_is (c.self.invariant.1.after comp out)

pub returns-clause-within : goal.returns-clause-within
returns-clause-within c =
    omega (arith, c.self.invariant.1.most, sym (length-map c.self.inside.values.items cell_in), ap length c.self.view_is)
