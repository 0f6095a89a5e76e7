-- The units so far.
use Rattle.std.proofs.Common.{◌≡◌, ◌≤◌}
use Rattle.std.specs.Prelude.{take}
use Rattle.std.specs.List.{count_by}
use Rattle.urgent_units.specs.Held.{is_held}
use Rattle.urgent_units.proofs.legs.Legs.held.Given as goal

abbrev pub invariant-loop-unit : goal.invariant-loop-unit
invariant-loop-unit l = record {
  held : l.held ≡ count_by (λ unit. is_held unit l.station l.over) (take l.unit-index l.units);
  few : l.held ≤ l.unit-index;
}
