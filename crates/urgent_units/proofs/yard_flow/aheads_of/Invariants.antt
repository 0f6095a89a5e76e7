-- Those so far, and the others.
use Rattle.std.proofs.Common.{◌≡◌, ◌≤◌, ◌+◌, ◌++◌, drop, length}
use Rattle.std.specs.List.{flat_map}
use Rattle.urgent_units.specs.YardFlow.{aheads_from}
use Rattle.urgent_units.proofs.yard_flow.aheads_of.Given as goal

abbrev pub invariant-loop-unit : goal.invariant-loop-unit
invariant-loop-unit l = record {
  are : l.aheads.items ++ aheads_from (drop l.unit-index l.units) (drop l.first l.arcs) ≡ aheads_from l.units l.arcs;
  room : l.first + length (flat_map (λ unit. unit.legs) (drop l.unit-index l.units)) ≤ length l.arcs;
}
