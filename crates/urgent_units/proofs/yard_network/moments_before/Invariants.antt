-- The stations so far.
use Rattle.std.proofs.Common.{◌≡◌, ◌≤◌, ◌+◌, ◌*◌}
use Rattle.rail_base.specs.declared.limits.TheConstants.{MAX_MINUTES, MAX_REALLOCATION}
use Rattle.timetable.specs.Lists.{sum_below}
use Rattle.urgent_units.specs.Moments.{moment_count}
use Rattle.urgent_units.proofs.yard_network.moments_before.Given as goal

abbrev pub invariant-loop-station : goal.invariant-loop-station
invariant-loop-station l = record {
  moments : l.moments ≡ sum_below (moment_count l.legs) l.station;
  few : l.moments ≤ l.station * (MAX_MINUTES + MAX_REALLOCATION + 2);
}
