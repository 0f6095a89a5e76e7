-- The first to leave among the units so far.
use Rattle.std.proofs.Common.{ℕ, ◌≡◌, ◌≤◌, ◌<◌, [], length, get_or, MatchOption}
use Rattle.urgent_units.specs.UnderWay.{departure_of}
use Rattle.urgent_units.specs.declared.swaps.TheConstants.{NEVER}
use Rattle.urgent_units.proofs.swaps.first_to_leave.Given as goal

abbrev pub invariant-loop-number : goal.invariant-loop-number
invariant-loop-number l = record {
  least : (k : ℕ) → k < l.number → l.departs ≤ departure_of (get_or l.aheads k []);
  is : MatchOption l.first ((l.departs ≡ NEVER) × ((k : ℕ) → k < l.number → get_or l.aheads k [] ≡ [])) (λ i. (i < length l.aheads) × (departure_of (get_or l.aheads i []) ≡ l.departs) × (l.departs < NEVER));
}
