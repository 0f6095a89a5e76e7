use Rattle.std.proofs.Common.{◌≡◌, ◌∙◌, ℕ, List, ap, length, subst, sym}
use Rattle.rules.specs.declared.records.Unit as unit
use Rattle.timetable.specs.Day.{unit_count}
use Rattle.timetable.specs.Duties.{last_place}
use Rattle.timetable.proofs.Listing.{length-listed}
use Rattle.inventory.specs.ServingLaws.{units_after}
use Rattle.week_units.specs.Listed.{AreAlike, ArePlaced, units_listed}
use Rattle.week_units.specs.Names.{by_name}
use Rattle.week_units.proofs.PlacedUnits.{placed_after}
use Rattle.week_units.proofs.Reading.{came_back}
use Rattle.week_units.proofs.standing.units_after.Goals as goal

pub place_units-requires-clause-places : goal.place_units-requires-clause-places
place_units-requires-clause-places c =
    let day = c.args.instance.now in
    ap (λ (ps : List ℕ). length ps) (c.deref.ensures.value ∙ c.in_ok-places.ensures)
    ∙ length-listed (last_place day c.args.plan.now) (unit_count day)
    ∙ sym c.requires.names.each

pub returns : goal.returns
returns c =
    let units = c.args.units.now in
    let day = c.args.instance.now in
    let plan = c.args.plan.now in
    let names = c.args.names.now in
    let new = c.place_units.new.units in
    let after = c.in_ok-after.after in
    let before_is : c.deref_mut.result.now ≡ units =
    c.deref_mut.ensures.value ∙ c.in_ok-after.ensures.items_if_clones_equal (λ x y same. same) in
    let placed : ArePlaced names c.deref.result.now (length names) units new =
    subst (λ (us : List unit.Unit). ArePlaced names c.deref.result.now (length names) us new) before_is
    c.place_units.ensures in
    let many : after.len ≡ length after.items =
    sym c.deref_mut.ensures.len ∙ ap (λ (us : List unit.Unit). length us) c.deref_mut.ensures.value in
    let same : length new ≡ length after.items =
    c.place_units.ensures.count ∙ ap (λ (us : List unit.Unit). length us) c.deref_mut.ensures.value in
    subst (λ (us : List unit.Unit). AreAlike (units_listed us) (units_after (units_listed units) day (by_name names plan)))
    (sym (came_back new after.items after.len many same))
    (placed_after units day plan names c.requires.names c.requires.plan new c.deref.result.now
    (c.deref.ensures.value ∙ c.in_ok-places.ensures) placed)
