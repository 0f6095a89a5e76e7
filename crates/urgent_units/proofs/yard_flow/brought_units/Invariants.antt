-- Those so far, and the others.
use Rattle.std.proofs.Common.{◌≡◌, ◌++◌, drop}
use Rattle.urgent_units.specs.YardFlow.{taken_units}
use Rattle.urgent_units.proofs.yard_flow.brought_units.Given as goal

abbrev pub invariant-loop-place : goal.invariant-loop-place
invariant-loop-place l = l.brought.items ++ taken_units (drop l.place l.units) (drop l.place l.arcs) ≡ taken_units l.units l.arcs
