-- The stations so far.
use Rattle.std.proofs.Common.{◌≡◌, ◌≤◌, ◌+◌, ◌*◌}
use Rattle.rail_base.specs.declared.limits.TheConstants.{MAX_MINUTES, MAX_REALLOCATION, MAX_UNITS}
use Rattle.timetable.specs.Lists.{sum_below}
use Rattle.urgent_units.specs.Cuts.{held_out_at}
use Rattle.urgent_units.proofs.legs.Legs.held_out.Given as goal

abbrev pub invariant-loop-number : goal.invariant-loop-number
invariant-loop-number l = record {
  out : l.out ≡ sum_below (held_out_at l.self l.cut) l.number;
  few : l.out ≤ l.number * ((MAX_MINUTES + MAX_REALLOCATION + 1) * MAX_UNITS);
}
