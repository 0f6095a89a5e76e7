use Rattle.week_units.proofs.Reading.{home_read, kth_read, type_read}
use Rattle.week_units.proofs.naming.kth_number.Goals as goal

pub returns : goal.returns
returns c =
    let own = c.args.own.now in
    let one = c.index-own-unit.result in
    kth_read own c.args.others.now c.args.unit one.home one.unit_type c.count_before-before.result c.unit_after.result
    (home_read own c.args.unit one c.requires.unit c.index-own-unit.is)
    (type_read own c.args.unit one c.requires.unit c.index-own-unit.is) c.count_before-before.ensures
    c.unit_after.ensures
