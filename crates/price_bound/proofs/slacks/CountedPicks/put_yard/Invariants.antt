-- The slacks are entered up to a departure minute.
use Rattle.std.proofs.Common.{◌≡◌, ◌+◌}
use Rattle.price_bound.specs.Entered.{entered, yard_index}
use Rattle.price_bound.proofs.slacks.CountedPicks.put_yard.Given as goal

abbrev pub invariant-loop-place : goal.invariant-loop-place
invariant-loop-place l = (l.index ≡ yard_index l.self.day l.station l.unit_type + l.place) × (l.into ≡ entered l.self.day l.self.picks l.index)
