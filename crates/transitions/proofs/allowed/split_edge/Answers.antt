-- The types behind the first train's are those of the second.
use Rattle.std.proofs.Common.{◌≡◌, refl, Option, Some, sym, ap, subst, ◌∙◌}
use Rattle.std.specs.Prelude.{◌↔◌}
use Rattle.timetable.specs.Links.{turned}
use Rattle.transitions.specs.declared.edge.Edge.{Edge}
use Rattle.transitions.specs.Edges.{IsSplitEdge}
use Rattle.transitions.specs.Between.{IsBetween}
use Rattle.transitions.proofs.Kept.{rest_at, number_at, split_no_rest, split_no_number, split_found}
use Rattle.transitions.proofs.Numbers.{read_number}
use Rattle.transitions.proofs.allowed.split_edge.Goals as goal

pub returns-in_err-behind : goal.returns-in_err-behind
returns-in_err-behind c = λ a b b2 flags runs runs' edge.
    let whole = c.units-2.ensures.value ∙ c.turned-arriving.ensures ∙ ap (turned c.args.reversed) (read_number c.args.instance.now c.catalogue-catalogue.result.now c.args.from c.get.result.now c.catalogue-catalogue.ensures c.get.ensures) in
    let front = c.units.ensures.value ∙ read_number c.args.instance.now c.catalogue-catalogue.result.now c.args.to c.get-2.result.now c.catalogue-catalogue.ensures c.get-2.ensures in
    subst (λ (o : Option Edge). (o ≡ Some edge) ↔ (IsSplitEdge c.args.instance.now c.args.reversed a b b2 edge × IsBetween c.args.from c.args.to edge)) (sym c.from_residual.ensures)
    (split_no_rest c.args.instance.now c.args.reversed b2 c.args.from c.args.to a b runs runs' (rest_at _ _ _ _ _ _ front whole (c.in_err-behind.was) c.rest_after.ensures) edge)

pub returns-in_err-part : goal.returns-in_err-part
returns-in_err-part c = λ a b b2 flags runs runs' edge.
    let whole = c.units-2.ensures.value ∙ c.turned-arriving.ensures ∙ ap (turned c.args.reversed) (read_number c.args.instance.now c.catalogue-catalogue.result.now c.args.from c.get.result.now c.catalogue-catalogue.ensures c.get.ensures) in
    let front = c.units.ensures.value ∙ read_number c.args.instance.now c.catalogue-catalogue.result.now c.args.to c.get-2.result.now c.catalogue-catalogue.ensures c.get-2.ensures in
    subst (λ (o : Option Edge). (o ≡ Some edge) ↔ (IsSplitEdge c.args.instance.now c.args.reversed a b b2 edge × IsBetween c.args.from c.args.to edge)) (sym c.from_residual-in_err-part.ensures)
    (split_no_number c.args.instance.now c.args.reversed b2 c.args.from c.args.to a b runs runs' c.in_ok-behind.behind (rest_at _ _ _ _ _ _ front whole (c.in_ok-behind.was) c.rest_after.ensures)
    (number_at c.args.instance.now b2 _ _ _ _ refl (c.in_err-part.was) (c.number_on.ensures b2 flags)) edge)

pub returns : goal.returns
returns c = λ a b b2 flags runs runs' edge.
    let whole = c.units-2.ensures.value ∙ c.turned-arriving.ensures ∙ ap (turned c.args.reversed) (read_number c.args.instance.now c.catalogue-catalogue.result.now c.args.from c.get.result.now c.catalogue-catalogue.ensures c.get.ensures) in
    let front = c.units.ensures.value ∙ read_number c.args.instance.now c.catalogue-catalogue.result.now c.args.to c.get-2.result.now c.catalogue-catalogue.ensures c.get-2.ensures in
    subst (λ (x : Edge). (Some x ≡ Some edge) ↔ (IsSplitEdge c.args.instance.now c.args.reversed a b b2 edge × IsBetween c.args.from c.args.to edge)) (sym c.keeping_edge.ensures)
    (split_found c.args.instance.now c.args.reversed b2 c.args.from c.args.to a b runs runs' c.in_ok-behind.behind c.in_ok-part.part (rest_at _ _ _ _ _ _ front whole (c.in_ok-behind.was) c.rest_after.ensures)
    (number_at c.args.instance.now b2 _ _ _ _ refl (c.in_ok-part.was) (c.number_on.ensures b2 flags)) edge)
