-- The types so far are the same.
use Rattle.std.proofs.Common.{◌≡◌, take}
use Rattle.week_units.proofs.rows.are_same_types.Given as goal

abbrev pub invariant-loop-place : goal.invariant-loop-place
invariant-loop-place l = take l.place l.types ≡ take l.place l.others
