-- The legs so far.
use Rattle.std.proofs.Common.{◌≡◌, ◌≤◌}
use Rattle.std.specs.Prelude.{take}
use Rattle.std.specs.List.{count_by}
use Rattle.urgent_units.specs.Cuts.{goes_out}
use Rattle.urgent_units.proofs.legs.Legs.legs_out_of.Given as goal

abbrev pub invariant-loop-leg : goal.invariant-loop-leg
invariant-loop-leg l = record {
  out : l.out ≡ count_by (goes_out l.self l.cut) (take l.leg-index l.legs);
  few : l.out ≤ l.leg-index;
}
