-- All values are taken out.
use Rattle.std.proofs.Common.{◌≡◌, ℤ, List, length, map, None, sym, ap, ◌∙◌, subst, arith}
use Rattle.std.proofs.lemmas.List.{length-map, with_items_is}
use Rattle.price_bound.specs.CellRows.{cell_in}
use Rattle.price_bound.proofs.CellValues.{cleared_all}
use Rattle.price_bound.proofs.cells.CellRow.clear.Goals as goal

pub returns : goal.returns
returns c =
    let all : length c.clear_range.new.row ≡ c.self.inside.values.len = omega (arith, c.clear_range.ensures.long, c.deref_mut.ensures.len) in
    let long : c.self.inside.values.len ≡ length c.args.self.now =
    c.self.inside.values.ok.0 ∙ sym (length-map c.self.inside.values.items cell_in) ∙ ap length c.self.view_is in
    subst (λ (values : List ℤ). map cell_in values ≡ map (λ _. None) c.args.self.now)
    (sym (with_items_is c.self.inside.values c.clear_range.new.row all))
    (cleared_all c.clear_range.new.row c.args.self.now (all ∙ long)
    (λ k below. c.clear_range.ensures.none k (omega (arith, below, long, c.deref_mut.ensures.len))))
