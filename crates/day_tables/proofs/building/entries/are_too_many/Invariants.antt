-- The units so far and those of the rows still to come are all of them.
use Rattle.std.proofs.Common.{◌≡◌, ◌+◌, ◌≤◌, drop}
use Rattle.day_tables.specs.Build.{starts_of}
use Rattle.day_tables.proofs.building.entries.are_too_many.Given as goal

abbrev pub invariant-loop-row : goal.invariant-loop-row
invariant-loop-row l = (l.units + starts_of (drop l.row-index l.stock) ≡ starts_of l.stock) × (l.units ≤ 2000)
