-- More than so many don't fit.
use Rattle.std.proofs.Common.{◌≡◌, ◌≤◌, length}
use Rattle.rules.specs.Turns.{fits_at, greatest}
use Rattle.rules.proofs.turns.kept_length.Given as goal

abbrev pub invariant-loop-stay : goal.invariant-loop-stay
invariant-loop-stay l = record {
  few : l.stay ≤ length l.arriving;
  rest : greatest (fits_at l.uncouple l.couple l.arriving l.departing) (length l.arriving) ≡ greatest (fits_at l.uncouple l.couple l.arriving l.departing) l.stay;
}

abbrev pub decreases-loop-stay : goal.decreases-loop-stay
decreases-loop-stay l = l.stay
