-- The slacks are entered up to a type.
use Rattle.std.proofs.Common.{◌≡◌}
use Rattle.price_bound.specs.Entered.{entered, yard_index}
use Rattle.price_bound.proofs.slacks.CountedPicks.put_station.Given as goal

abbrev pub invariant-loop-unit_type : goal.invariant-loop-unit_type
invariant-loop-unit_type l = (l.index ≡ yard_index l.self.day l.station l.unit_type) × (l.into ≡ entered l.self.day l.self.picks l.index)
