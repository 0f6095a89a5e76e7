-- One trip more.
use Rattle.price_bound.proofs.Crediting.{trips_more}
use Rattle.price_bound.proofs.credits.fill_sums.Goals as goal

pub loop-trip-preserved : goal.loop-trip-preserved
loop-trip-preserved c =
    trips_more c.args.instance.now c.args.region.now c.args.tables.now.gives c.args.tables.now.takes c.loop-trip.trip c.loop-trip.sums c.put_trip.new.self
    c.loop-trip.invariant c.put_trip.ensures
