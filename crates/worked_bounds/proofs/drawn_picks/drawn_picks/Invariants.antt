use Rattle.std.proofs.Common.{◌≡◌, length}
use Rattle.worked_bounds.proofs.drawn_picks.drawn_picks.Given as goal

abbrev pub invariant-loop-trip : goal.invariant-loop-trip
invariant-loop-trip l = length l.picks ≡ length l.day.trips

abbrev pub invariant-loop-link : goal.invariant-loop-link
invariant-loop-link l = length l.picks ≡ length l.day.trips
