-- The types behind the first train's are those of the second.
use Rattle.std.proofs.Common.{◌≡◌, Option, Some, sym, ap, subst, ◌∙◌}
use Rattle.std.specs.Prelude.{◌↔◌}
use Rattle.timetable.specs.Links.{turned}
use Rattle.transitions.specs.declared.edge.Edge.{Edge}
use Rattle.transitions.specs.Edges.{IsJoinEdge}
use Rattle.transitions.specs.Between.{IsBetween}
use Rattle.transitions.proofs.Kept.{rest_at, number_at, join_no_rest, join_no_number, join_found}
use Rattle.transitions.proofs.Numbers.{read_number}
use Rattle.transitions.proofs.allowed.join_edge.Goals as goal

pub returns-in_err-behind : goal.returns-in_err-behind
returns-in_err-behind c = λ a a2 b flags runs runs' edge.
    let front = c.units.ensures.value ∙ c.turned-arriving.ensures ∙ ap (turned c.args.reversed) (read_number c.args.instance.now c.catalogue-catalogue.result.now c.args.from c.get.result.now c.catalogue-catalogue.ensures c.get.ensures) in
    let whole = c.units-2.ensures.value ∙ read_number c.args.instance.now c.catalogue-catalogue.result.now c.args.to c.get-2.result.now c.catalogue-catalogue.ensures c.get-2.ensures in
    subst (λ (o : Option Edge). (o ≡ Some edge) ↔ (IsJoinEdge c.args.instance.now c.args.reversed a a2 b edge × IsBetween c.args.from c.args.to edge)) (sym c.from_residual.ensures)
    (join_no_rest c.args.instance.now c.args.reversed a2 c.args.from c.args.to a b runs runs' (rest_at _ _ _ _ _ _ front whole (c.in_err-behind.was) c.rest_after.ensures) edge)

pub returns-in_err-part : goal.returns-in_err-part
returns-in_err-part c = λ a a2 b flags runs runs' edge.
    let front = c.units.ensures.value ∙ c.turned-arriving.ensures ∙ ap (turned c.args.reversed) (read_number c.args.instance.now c.catalogue-catalogue.result.now c.args.from c.get.result.now c.catalogue-catalogue.ensures c.get.ensures) in
    let whole = c.units-2.ensures.value ∙ read_number c.args.instance.now c.catalogue-catalogue.result.now c.args.to c.get-2.result.now c.catalogue-catalogue.ensures c.get-2.ensures in
    subst (λ (o : Option Edge). (o ≡ Some edge) ↔ (IsJoinEdge c.args.instance.now c.args.reversed a a2 b edge × IsBetween c.args.from c.args.to edge)) (sym c.from_residual-in_err-part.ensures)
    (join_no_number c.args.instance.now c.args.reversed a2 c.args.from c.args.to a b runs runs' c.in_ok-behind.behind (rest_at _ _ _ _ _ _ front whole (c.in_ok-behind.was) c.rest_after.ensures)
    (number_at c.args.instance.now a2 _ _ _ _ c.turned.ensures (c.in_err-part.was) (c.number_on.ensures a2 flags)) edge)

pub returns : goal.returns
returns c = λ a a2 b flags runs runs' edge.
    let front = c.units.ensures.value ∙ c.turned-arriving.ensures ∙ ap (turned c.args.reversed) (read_number c.args.instance.now c.catalogue-catalogue.result.now c.args.from c.get.result.now c.catalogue-catalogue.ensures c.get.ensures) in
    let whole = c.units-2.ensures.value ∙ read_number c.args.instance.now c.catalogue-catalogue.result.now c.args.to c.get-2.result.now c.catalogue-catalogue.ensures c.get-2.ensures in
    subst (λ (x : Edge). (Some x ≡ Some edge) ↔ (IsJoinEdge c.args.instance.now c.args.reversed a a2 b edge × IsBetween c.args.from c.args.to edge)) (sym c.keeping_edge.ensures)
    (join_found c.args.instance.now c.args.reversed a2 c.args.from c.args.to a b runs runs' c.in_ok-behind.behind c.in_ok-part.part (rest_at _ _ _ _ _ _ front whole (c.in_ok-behind.was) c.rest_after.ensures)
    (number_at c.args.instance.now a2 _ _ _ _ c.turned.ensures (c.in_ok-part.was) (c.number_on.ensures a2 flags)) edge)
