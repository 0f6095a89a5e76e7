-- Those so far, and the others.
use Rattle.std.proofs.Common.{◌≡◌, ◌++◌, drop}
use Rattle.urgent_units.specs.YardFlow.{marked_from}
use Rattle.urgent_units.proofs.yard_flow.marked_legs.Given as goal

abbrev pub invariant-loop-place : goal.invariant-loop-place
invariant-loop-place l = l.marked.items ++ marked_from (drop l.place l.legs) (drop l.place l.arcs) ≡ marked_from l.legs l.arcs
