-- The minutes of the stations so far.
use Rattle.std.proofs.Common.{◌≡◌}
use Rattle.timetable.specs.Lists.{listed}
use Rattle.timetable.specs.Minutes.{minutes_in}
use Rattle.timetable.proofs.day.minutes.minutes_of.Given as goal

abbrev pub invariant-loop-station : goal.invariant-loop-station
invariant-loop-station l = l.minutes.items ≡ listed (minutes_in l.trips) l.station
