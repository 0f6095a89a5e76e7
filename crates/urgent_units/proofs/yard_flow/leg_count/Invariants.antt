-- The units so far.
use Rattle.std.proofs.Common.{◌≡◌, ◌≤◌, ◌*◌, length}
use Rattle.std.specs.Prelude.{take}
use Rattle.std.specs.List.{flat_map}
use Rattle.rail_base.specs.declared.limits.TheConstants.{MAX_TRIPS}
use Rattle.urgent_units.proofs.yard_flow.leg_count.Given as goal

abbrev pub invariant-loop-unit : goal.invariant-loop-unit
invariant-loop-unit l = record {
  counted : l.count ≡ length (flat_map (λ unit. unit.legs) (take l.unit-index l.units));
  few : l.count ≤ l.unit-index * MAX_TRIPS;
}
