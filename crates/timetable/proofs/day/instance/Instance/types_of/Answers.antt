use Rattle.std.proofs.Common.{◌≡◌, ◌∙◌, ap, sym, suc, ◌++◌, ◌∷◌, [], length, true, ltb, List, ℕ, refl}
use Rattle.std.proofs.lemmas.Bool.{le-leb, and_from}
use Rattle.std.proofs.lemmas.List.Folds.{list_all-append}
use Rattle.timetable.proofs.ListedUnits.{unit_at, types_more}
use Rattle.timetable.proofs.day.instance.Instance.types_of.Goals as goal

pub unit-requires : goal.unit-requires
unit-requires c = unit_at c.args.self.now c.args.units.now c.loop-unit.unit-index c.unit-item.result c.requires.known c.loop-unit-test.true c.unit-item.is

pub loop-unit-preserved : goal.loop-unit-preserved
loop-unit-preserved c =
    let day = c.args.self.now in
    let types = c.loop-unit.types.items in
    let next = c.unit.result.unit_type in
    let more = types_more day c.args.units.now c.loop-unit.unit-index c.unit-item.result c.unit.result c.loop-unit-test.true c.unit-item.is c.unit.ensures.value in
    let here : ltb next (length day.types) ≡ true = le-leb (suc next) (length day.types) c.unit.ensures.within.unit_type in
    record {
      types = c.push.ensures.items ∙ ap (λ (ms : List ℕ). ms ++ next ∷ []) c.loop-unit.invariant.types ∙ sym more;
      known = rw (c.push.ensures.items, list_all-append (λ m. ltb m (length day.types)) types (next ∷ [])) (and_from _ _ c.loop-unit.invariant.known (and_from _ _ here refl));
    }
