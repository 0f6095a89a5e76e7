use Rattle.std.proofs.Common.{◌≡◌, ◌∙◌, ◌+◌, ◌++◌, ◌∷◌, [], ℕ, List, length, take, refl, sym, subst, arith}
use Rattle.std.proofs.lemmas.List.{take_more, length-take-le}
use Rattle.timetable.specs.Lists.{has}
use Rattle.timetable.proofs.ListedUnits.{has_at, list_any-has}
use Rattle.unit_duties.specs.declared.stops.Stop.{Stop}
use Rattle.unit_duties.proofs.Stopping.{AddedSoFar, added_there, added_new}
use Rattle.unit_duties.proofs.by_unit.add_trip.Goals as goal
use Rattle.unit_duties.proofs.by_unit.add_trip.Goals.{then-not-contains+in_ok-add_stop, else-not-contains}

pub add_stop-requires : goal.add_stop-requires
add_stop-requires c =
    let known = c.requires.known c.index-units-place.result (has_at c.args.units.now c.loop-place.place c.index-units-place.result c.loop-place-test.true c.index-units-place.is) in
    let long = c.loop-place.invariant.long in
    omega arith

pub loop-place-preserved : goal.loop-place-preserved
loop-place-preserved c =
    let us = c.args.units.now in
    let p = c.loop-place.place in
    let u = c.index-units-place.result in
    let known = c.requires.known u (has_at us p u c.loop-place-test.true c.index-units-place.is) in
    let more : take (p + 1) us ≡ take p us ++ u ∷ [] = rw (take_more us p u c.loop-place-test.true, ← c.index-units-place.is) refl in
    let there : has u (take p us) ≡ c.contains.result = sym (list_any-has (take p us) u) ∙ sym c.contains.ensures.value in
    let so_far = c.loop-place.invariant in
    let long : p ≡ length (take p us) = sym (length-take-le p us (omega (arith, c.loop-place-test.true))) in
    elim c.if-not-contains.branch [
      | then-not-contains+in_ok-add_stop w ↦
          subst (λ (vs : List ℕ). AddedSoFar c.args.trip vs c.args.lists.now c.if-not-contains.lists) (sym more)
          (subst (λ (now : List (List Stop)). AddedSoFar c.args.trip (take p us ++ u ∷ []) c.args.lists.now now) (sym (w.lists-is ∙ w.in_ok-add_stop.ensures))
          (added_new c.args.trip u p (take p us) c.args.lists.now c.loop-place.lists (there ∙ w.if-not-contains.true) known long so_far))
      | else-not-contains w ↦
          subst (λ (vs : List ℕ). AddedSoFar c.args.trip vs c.args.lists.now c.if-not-contains.lists) (sym more)
          (subst (λ (now : List (List Stop)). AddedSoFar c.args.trip (take p us ++ u ∷ []) c.args.lists.now now) (sym w.lists-is)
          (added_there c.args.trip u (take p us) c.args.lists.now c.loop-place.lists (there ∙ w.if-not-contains.false) so_far))
    ]
