use Rattle.std.proofs.Common.{ℕ, List, length, ap, arith}
use Rattle.urgent_units.proofs.WishedUnits.{at_home, few, of_day}
use Rattle.urgent_units.proofs.legs.Legs.homes_outside.Goals as goal

pub home_of-requires : goal.home_of-requires
home_of-requires c =
    of_day c.args.instance.now c.args.wish.now c.requires.wish c.items-units.result.now c.loop-unit.unit-index c.unit-item.result
    c.items-units.ensures (let h = c.loop-unit-test.true in omega (arith, h)) c.unit-item.is

pub has-requires-clause-station : goal.has-requires-clause-station
has-requires-clause-station c =
    let home = at_home c.args.instance.now c.args.wish.now c.requires.wish c.items-units.result.now c.loop-unit.unit-index c.unit-item.result
    c.is_sound.ensures.limits c.items-units.ensures (let h = c.loop-unit-test.true in omega (arith, h)) c.unit-item.is in
    omega (arith, c.home_of.ensures, home, c.requires.stations, c.requires.cut.stations)

pub has-requires-clause-moment : goal.has-requires-clause-moment
has-requires-clause-moment c =
    let home = at_home c.args.instance.now c.args.wish.now c.requires.wish c.items-units.result.now c.loop-unit.unit-index c.unit-item.result
    c.is_sound.ensures.limits c.items-units.ensures (let h = c.loop-unit-test.true in omega (arith, h)) c.unit-item.is in
    let moments = c.requires.cut.moments c.home_of.result (omega (arith, c.home_of.ensures, home, c.requires.stations)) in
    omega (arith, moments)

pub overflow_add-outside : goal.overflow_add-outside
overflow_add-outside c =
    let most = few c.args.instance.now c.args.wish.now c.requires.wish c.is_sound.ensures.limits in
    let long = ap (λ (units : List ℕ). length units) c.items-units.ensures in
    let within = c.loop-unit-test.true in
    omega (arith, c.loop-unit.invariant.few, within, long, most)

pub returns-clause-few : goal.returns-clause-few
returns-clause-few c =
    let most = few c.args.instance.now c.args.wish.now c.requires.wish c.is_sound.ensures.limits in
    let long = ap (λ (units : List ℕ). length units) c.items-units.ensures in
    omega (arith, c.loop-unit.invariant.few, c.loop-unit.auto.unit-index-end, long, most)
