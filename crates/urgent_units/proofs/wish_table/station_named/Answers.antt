use Rattle.urgent_units.proofs.WishRows.{named_station}
use Rattle.urgent_units.proofs.wish_table.station_named.Goals as goal

pub returns-in-Ok : goal.returns-in-Ok
returns-in-Ok c =
    named_station c.args.instance.now c.args.text.now c.in-Ok.name.now c.find_station.result c.in-Ok.ensures.cases.0 c.in-Ok.ensures.cases.1 c.find_station.ensures.value
