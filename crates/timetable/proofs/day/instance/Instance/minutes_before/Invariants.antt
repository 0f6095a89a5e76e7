-- The minutes of the stations so far.
use Rattle.std.proofs.Common.{◌≡◌, ◌≤◌, length}
use Rattle.rail_base.specs.declared.limits.TheConstants.{MAX_TRIPS}
use Rattle.timetable.specs.Lists.{sum_below}
use Rattle.timetable.specs.Minutes.{minutes_of}
use Rattle.timetable.proofs.day.instance.Instance.minutes_before.Given as goal

abbrev pub invariant-loop-earlier : goal.invariant-loop-earlier
invariant-loop-earlier l = (l.minutes ≡ sum_below (λ s. length (minutes_of l.self s)) l.earlier) × (l.minutes ≤ MAX_TRIPS)
