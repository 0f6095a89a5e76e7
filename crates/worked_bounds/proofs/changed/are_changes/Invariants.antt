-- The changes so far are changes of the day.
use Rattle.worked_bounds.proofs.RisingChanges.{AreChangesBelow}
use Rattle.worked_bounds.proofs.changed.are_changes.Given as goal

abbrev pub invariant-loop-place : goal.invariant-loop-place
invariant-loop-place l = AreChangesBelow l.day l.changes l.place
