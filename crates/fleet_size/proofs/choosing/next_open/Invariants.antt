-- The box so far is one that may be split, or none of those so far may be.
use Rattle.std.specs.Prelude.{MatchOption}
use Rattle.fleet_size.specs.Slots.{IsNext, price_in}
use Rattle.fleet_size.proofs.NextBoxes.{DoneUpTo}
use Rattle.fleet_size.proofs.choosing.next_open.Given as goal

abbrev pub invariant-loop-slot : goal.invariant-loop-slot
invariant-loop-slot l = MatchOption l.next (DoneUpTo l.prices (price_in l.best) l.slots l.slot) (IsNext l.slots)
