use Rattle.std.proofs.Common.{arith}
use Rattle.timetable.proofs.ListedUnits.{has_at}
use Rattle.day_simulator.proofs.yards.put_all.Goals as goal

pub put-requires : goal.put-requires
put-requires c =
    let inside = c.requires c.unit-item.result (has_at c.args.units.now c.loop-unit.unit-index c.unit-item.result c.loop-unit-test.true c.unit-item.is) in
    omega (arith, inside)
