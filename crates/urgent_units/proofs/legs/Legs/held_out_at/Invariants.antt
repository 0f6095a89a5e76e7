-- The moments so far.
use Rattle.std.proofs.Common.{◌≡◌, ◌≤◌, ◌*◌}
use Rattle.std.specs.Prelude.{if◌then◌else◌}
use Rattle.rail_base.specs.declared.limits.TheConstants.{MAX_UNITS}
use Rattle.timetable.specs.Lists.{sum_below}
use Rattle.urgent_units.specs.Cuts.{is_left}
use Rattle.urgent_units.specs.Held.{held}
use Rattle.urgent_units.proofs.legs.Legs.held_out_at.Given as goal

abbrev pub invariant-loop-moment : goal.invariant-loop-moment
invariant-loop-moment l = record {
  out : l.out ≡ sum_below (λ k. if is_left l.cut l.station k then held l.self l.station k else 0) l.moment;
  few : l.out ≤ l.moment * MAX_UNITS;
}
