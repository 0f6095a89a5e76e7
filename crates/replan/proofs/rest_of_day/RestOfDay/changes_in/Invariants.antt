use Rattle.std.proofs.Common.{◌≡◌, ◌≤◌}
use Rattle.timetable.specs.Lists.{count_below}
use Rattle.replan.specs.Disturbances.{is_changed}
use Rattle.replan.proofs.rest_of_day.RestOfDay.changes_in.Given as goal

abbrev pub invariant-loop-trip : goal.invariant-loop-trip
invariant-loop-trip l = (l.changes ≡ count_below (is_changed l.self l.plan) l.trip) × (l.changes ≤ l.trip)
