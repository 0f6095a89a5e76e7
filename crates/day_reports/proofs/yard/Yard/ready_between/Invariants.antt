use Rattle.std.proofs.Common.{◌≡◌, ◌≤◌, ◌*◌}
use Rattle.rail_base.specs.declared.limits.TheConstants.{MAX_COMPOSITION_UNITS}
use Rattle.timetable.specs.Lists.{sum_below}
use Rattle.day_reports.specs.YardRows.{gives_between}
use Rattle.day_reports.proofs.yard.Yard.ready_between.Given as goal

abbrev pub invariant-loop-number : goal.invariant-loop-number
invariant-loop-number l = record {
  sum : l.ready ≡ sum_below (gives_between l.self l.span.after l.span.by) l.number;
  few : l.ready ≤ MAX_COMPOSITION_UNITS * l.number;
}
