-- The urgent units so far.
use Rattle.std.proofs.Common.{◌≡◌, ◌≤◌}
use Rattle.std.specs.Prelude.{not, take}
use Rattle.std.specs.List.{count_by}
use Rattle.timetable.specs.Day.{home_of}
use Rattle.urgent_units.specs.Cuts.{is_in}
use Rattle.urgent_units.proofs.legs.Legs.homes_outside.Given as goal

abbrev pub invariant-loop-unit : goal.invariant-loop-unit
invariant-loop-unit l = record {
  outside : l.outside ≡ count_by (λ u. not (is_in l.cut (home_of l.instance u) 0)) (take l.unit-index l.units);
  few : l.outside ≤ l.unit-index;
}
