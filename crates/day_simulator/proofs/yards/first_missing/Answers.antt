use Rattle.std.proofs.Common.{take, arith, sym, ◌∙◌}
use Rattle.timetable.proofs.ListedUnits.{unit_at, list_any-has}
use Rattle.day_simulator.proofs.Missing.{missing_taken, missing_unready, missing_later, place_read, same_test}
use Rattle.day_simulator.proofs.yards.first_missing.Goals as goal

pub returns-then-contains : goal.returns-then-contains
returns-then-contains c =
    let us = c.args.units.now in
    let u = c.index-units-i.result in
    let known = unit_at c.args.instance.now us c.loop-i.i u c.requires.known c.loop-i-test.true c.index-units-i.is in
    missing_taken c.args.instance.now c.args.trip c.args.locations.now us c.loop-i.i u c.loop-i-test.true c.index-units-i.is _ c.loop-i.invariant
    (omega (arith, known)) (sym (list_any-has (take c.loop-i.i us) u) ∙ sym c.contains.ensures.value ∙ c.if-contains.true)

pub bounds-locations-place : goal.bounds-locations-place
bounds-locations-place c =
    let known = unit_at c.args.instance.now c.args.units.now c.loop-i.i c.index-units-i.result c.requires.known c.loop-i-test.true c.index-units-i.is in
    omega (arith, known)

pub returns-then-not-is_ready : goal.returns-then-not-is_ready
returns-then-not-is_ready c =
    let us = c.args.units.now in
    let u = c.index-units-i.result in
    let ps = c.args.locations.now in
    let known = unit_at c.args.instance.now us c.loop-i.i u c.requires.known c.loop-i-test.true c.index-units-i.is in
    let here = place_read ps u c.place.result c.index-locations-place.result c.place.ensures.number (omega (arith, known)) c.index-locations-place.is in
    missing_unready c.args.instance.now c.args.trip ps us c.loop-i.i u c.loop-i-test.true c.index-units-i.is _ c.loop-i.invariant
    (omega (arith, known)) (sym (list_any-has (take c.loop-i.i us) u) ∙ sym c.contains.ensures.value ∙ c.if-contains.false)
    (same_test _ _ _ _ _ _ c.from_of-station.ensures.station c.departure-minute.ensures.minute here ∙ sym c.is_ready.ensures ∙ c.if-not-is_ready.true)

pub loop-i-preserved : goal.loop-i-preserved
loop-i-preserved c =
    let us = c.args.units.now in
    let u = c.index-units-i.result in
    let ps = c.args.locations.now in
    let known = unit_at c.args.instance.now us c.loop-i.i u c.requires.known c.loop-i-test.true c.index-units-i.is in
    let here = place_read ps u c.place.result c.index-locations-place.result c.place.ensures.number (omega (arith, known)) c.index-locations-place.is in
    missing_later c.args.instance.now c.args.trip ps us c.loop-i.i u c.loop-i-test.true c.index-units-i.is _ c.loop-i.invariant
    (omega (arith, known)) (sym (list_any-has (take c.loop-i.i us) u) ∙ sym c.contains.ensures.value ∙ c.if-contains.false)
    (same_test _ _ _ _ _ _ c.from_of-station.ensures.station c.departure-minute.ensures.minute here ∙ sym c.is_ready.ensures ∙ c.if-not-is_ready.false)
