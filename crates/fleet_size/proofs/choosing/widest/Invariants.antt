-- The place so far is one where the box is wide, or none is.
use Rattle.std.specs.Prelude.{MatchOption}
use Rattle.fleet_size.specs.Slots.{IsWideAt}
use Rattle.fleet_size.proofs.NextBoxes.{SameUpTo}
use Rattle.fleet_size.proofs.choosing.widest.Given as goal

abbrev pub invariant-loop-place : goal.invariant-loop-place
invariant-loop-place l = MatchOption l.widest (SameUpTo l.fleets l.place) (IsWideAt l.fleets)
