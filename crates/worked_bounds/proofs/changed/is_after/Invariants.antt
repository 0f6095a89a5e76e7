-- The changes so far are of earlier trips.
use Rattle.std.proofs.Common.{◌<◌, All, take}
use Rattle.worked_bounds.proofs.changed.is_after.Given as goal

abbrev pub invariant-loop-place : goal.invariant-loop-place
invariant-loop-place l = All (λ other. other.trip < l.change.trip) (take l.place l.others)
