use Rattle.std.proofs.Common.{arith}
use Rattle.urgent_units.proofs.WishedUnits.{at_home, of_day}
use Rattle.urgent_units.proofs.yard_network.add_homes.Goals as goal

pub add_home-requires-clause-unit : goal.add_home-requires-clause-unit
add_home-requires-clause-unit c =
    of_day c.args.instance.now c.args.wish.now c.requires.wish c.items-units.result.now c.loop-unit.unit-index c.unit-item.result
    c.items-units.ensures (let h = c.loop-unit-test.true in omega (arith, h)) c.unit-item.is

pub add_home-requires-clause-home : goal.add_home-requires-clause-home
add_home-requires-clause-home c =
    let home = at_home c.args.instance.now c.args.wish.now c.requires.wish c.items-units.result.now c.loop-unit.unit-index c.unit-item.result
    c.is_sound.ensures.limits c.items-units.ensures (let h = c.loop-unit-test.true in omega (arith, h)) c.unit-item.is in
    omega (arith, home, c.requires.stations)
