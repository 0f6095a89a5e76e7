use Rattle.std.proofs.Common.{◌≡◌, sym, ◌∙◌, ap, subst, arith, rules, get_or, w64}
use Rattle.std.proofs.lemmas.Bool.{false≢true}
use Rattle.std.proofs.lemmas.Int.{ints}
use mir.Val.{to_z, of_z, SFits}
use Rattle.branch_tree.specs.Entries.{value_at}
use Rattle.branch_tree.specs.Places.{IsAt, IsPlaceOf}
use Rattle.branch_tree.proofs.Puts.{value_at-there, value_at-absent, none_there}
use Rattle.branch_tree.proofs.multipliers.Multipliers.value.Goals as goal

pub returns-then-is_at : goal.returns-then-is_at
returns-then-is_at c =
    let items = c.self.inside.entries.items in
    let place = c.place_of-place.result in
    let found : value_at items c.args.index ≡ (get_or items place c.index.result.now).value = value_at-there items c.args.index place c.index.result.now
    (subst (λ xs. IsPlaceOf xs c.args.index place) c.deref.ensures.value c.place_of-place.ensures)
    (subst (λ xs. IsAt xs place c.args.index) c.deref-2.ensures.value (c.is_at.ensures.0 c.if-is_at.true)) in
    let fits : SFits w64 c.index.result.now.value = search rules in
    let passed : to_z w64 (of_z w64 c.index.result.now.value) ≡ c.index.result.now.value = omega (arith, ints) in
    passed ∙ ap (λ entry. entry.value) c.index.ensures ∙ sym found ∙ ap (λ xs. value_at xs c.args.index) c.self.view_is

pub returns-else-is_at : goal.returns-else-is_at
returns-else-is_at c =
    let items = c.self.inside.entries.items in
    let place = c.place_of-place.result in
    sym (value_at-absent items c.args.index (none_there items c.args.index place c.self.invariant.0.rising
    (subst (λ xs. IsPlaceOf xs c.args.index place) c.deref.ensures.value c.place_of-place.ensures)
    (λ at. false≢true (sym c.if-is_at.false ∙ c.is_at.ensures.1 (subst (λ xs. IsAt xs place c.args.index) (sym c.deref-2.ensures.value) at)))))
    ∙ ap (λ xs. value_at xs c.args.index) c.self.view_is
