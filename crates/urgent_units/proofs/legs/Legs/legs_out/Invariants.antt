-- The legs of the units so far.
use Rattle.std.proofs.Common.{◌≡◌, ◌≤◌, ◌*◌}
use Rattle.std.specs.Prelude.{take}
use Rattle.std.specs.List.{count_by, flat_map}
use Rattle.rail_base.specs.declared.limits.TheConstants.{MAX_TRIPS}
use Rattle.urgent_units.specs.Cuts.{goes_out}
use Rattle.urgent_units.proofs.legs.Legs.legs_out.Given as goal

abbrev pub invariant-loop-unit : goal.invariant-loop-unit
invariant-loop-unit l = record {
  out : l.out ≡ count_by (goes_out l.self l.cut) (flat_map (λ unit. unit.legs) (take l.unit-index l.units));
  few : l.out ≤ l.unit-index * MAX_TRIPS;
}
