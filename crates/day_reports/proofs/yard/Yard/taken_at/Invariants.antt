use Rattle.std.proofs.Common.{◌≡◌, ◌≤◌, ◌*◌}
use Rattle.rail_base.specs.declared.limits.TheConstants.{MAX_COMPOSITION_UNITS}
use Rattle.timetable.specs.Lists.{sum_below}
use Rattle.day_reports.specs.YardRows.{takes_at}
use Rattle.day_reports.proofs.yard.Yard.taken_at.Given as goal

abbrev pub invariant-loop-number : goal.invariant-loop-number
invariant-loop-number l = record {
  sum : l.taken ≡ sum_below (takes_at l.self l.minute) l.number;
  few : l.taken ≤ MAX_COMPOSITION_UNITS * l.number;
}
