-- The units of a row are added.
use Rattle.timetable.proofs.EachRow.{units_more}
use Rattle.timetable.proofs.day.instance.units_of.Goals as goal

pub loop-row-preserved : goal.loop-row-preserved
loop-row-preserved c =
    units_more c.loop-row.units.items c.push_units.new.units.items c.args.stock.now c.loop-row.row-index c.row-item.result _
    c.loop-row-test.true c.row-item.is c.in_ok-push_units.ensures c.loop-row.invariant
