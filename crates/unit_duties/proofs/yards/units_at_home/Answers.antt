use Rattle.timetable.proofs.ListedUnits.{type_is}
use Rattle.unit_duties.proofs.AtHome.{home_is, one_more_home}
use Rattle.unit_duties.proofs.yards.units_at_home.Goals as goal

pub loop-number-preserved : goal.loop-number-preserved
loop-number-preserved c =
    let day = c.args.instance.now in
    let n = c.loop-number.number in
    let unit = c.unit-unit.result in
    one_more_home day n c.loop-number.yards c.insert.new.self unit.home unit.unit_type c.loop-number.invariant
    (home_is day n unit c.unit-unit.ensures.value) (type_is day n unit c.unit-unit.ensures.value) c.in_ok-insert.ensures.updates.0
