-- The rows before the place are as they were, and of the others those are left whose trips are not gone.
use Rattle.std.proofs.Common.{◌≡◌, ◌≤◌, ◌++◌, length, take, drop}
use Rattle.day_tables.specs.DerivedDays.{left_from}
use Rattle.day_tables.proofs.building.left_tables.take_out.Given as goal

abbrev pub invariant-loop-place : goal.invariant-loop-place
invariant-loop-place g l =
    (l.rows.items ≡ take l.place l.fn.rows.items ++ left_from l.gone l.place (drop l.place l.fn.rows.items)) ×
    (l.place ≤ length l.fn.rows.items)

-- the place falls
abbrev pub decreases-loop-place : goal.decreases-loop-place
decreases-loop-place g l = l.place
