-- No composition outside of the range has a cell.
use Rattle.std.proofs.Common.{None, sym, ◌∙◌, arith, inr, refl}
use Rattle.price_bound.specs.CellRows.{held_cell}
use Rattle.price_bound.proofs.CellValues.{least_past, least_rest, no_cell}
use Rattle.price_bound.proofs.cells.CellRow.least.Goals as goal

pub loop-comp-init : goal.loop-comp-init
loop-comp-init c = record {
  least = least_past c.self.inside.range.begin 0 c.self.inside.range.begin None c.args.self.now (omega arith)
      (λ k lt. no_cell c.self.inside.values.items c.args.self.now k c.self.view_is (c.self.invariant.1.before k lt));
  held = inr refl;
}

pub returns : goal.returns
returns c =
    c.held_cell.ensures
    ∙ sym (least_rest c.loop-comp.comp c.self.inside.range.end (held_cell c.loop-comp.least) c.args.self.now (omega (arith, c.loop-comp-test.false))
    (λ k past. no_cell c.self.inside.values.items c.args.self.now k c.self.view_is (c.self.invariant.1.after k past)))
    ∙ c.loop-comp.invariant.least
