-- The slacks are entered up to a type.
use Rattle.std.proofs.Common.{◌≡◌, ◌+◌}
use Rattle.price_bound.specs.Entered.{end_index, entered}
use Rattle.price_bound.proofs.slacks.CountedPicks.put_station_ends.Given as goal

abbrev pub invariant-loop-unit_type : goal.invariant-loop-unit_type
invariant-loop-unit_type l = (l.index ≡ end_index l.self.day l.station + l.unit_type) × (l.into ≡ entered l.self.day l.self.picks l.index)
