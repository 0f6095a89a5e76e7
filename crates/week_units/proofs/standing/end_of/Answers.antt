use Rattle.std.proofs.Common.{◌∙◌}
use Rattle.week_units.proofs.PlacedUnits.{ends_more}
use Rattle.week_units.proofs.standing.end_of.Goals as goal

pub loop-stop-preserved : goal.loop-stop-preserved
loop-stop-preserved c =
    ends_more c.args.instance.now c.loop-stop.place c.args.stops.now c.loop-stop.stop-index c.stop-item.result
    c.trip.result.now c.loop-stop-test.true c.stop-item.is c.trip.ensures.value
    ∙ c.loop-stop.invariant
