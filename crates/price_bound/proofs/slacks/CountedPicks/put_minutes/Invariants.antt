-- The slacks are entered up to a station.
use Rattle.std.proofs.Common.{◌≡◌}
use Rattle.price_bound.specs.Entered.{entered, station_index}
use Rattle.price_bound.proofs.slacks.CountedPicks.put_minutes.Given as goal

abbrev pub invariant-loop-station : goal.invariant-loop-station
invariant-loop-station l = (l.index ≡ station_index l.self.day l.station) × (l.into ≡ entered l.self.day l.self.picks l.index)
