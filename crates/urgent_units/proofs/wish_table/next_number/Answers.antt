use Rattle.std.proofs.Common.{◌≤◌, length, arith}
use Rattle.timetable.specs.Day.{unit_count}
use Rattle.urgent_units.proofs.WishRows.{few_rows}
use Rattle.urgent_units.proofs.wish_table.next_number.Goals as goal

pub overflow_cast-result : goal.overflow_cast-result
overflow_cast-result c = let few : length c.args.rows.now ≤ unit_count c.args.instance.now = few_rows c.args.instance.now c.args.rows.now c.requires in omega (arith, few, c.units.ensures.value, c.if-prove.false)

pub overflow_add-result : goal.overflow_add-result
overflow_add-result c = let few : length c.args.rows.now ≤ unit_count c.args.instance.now = few_rows c.args.instance.now c.args.rows.now c.requires in omega (arith, few, c.units.ensures.value, c.if-prove.false)
