-- The minutes of the trips from one on.
use Rattle.std.proofs.Common.{◌≡◌, ◌≤◌, drop, length}
use Rattle.timetable.specs.Minutes.{minutes_in}
use Rattle.timetable.proofs.day.minutes.minutes_at.Given as goal

abbrev pub invariant-loop-left : goal.invariant-loop-left
invariant-loop-left l = (l.minutes.items ≡ minutes_in (drop l.left l.trips) l.station) × (l.left ≤ length l.trips)

abbrev pub decreases-loop-left : goal.decreases-loop-left
decreases-loop-left l = l.left
