-- Where the units so far end.
use Rattle.std.proofs.Common.{◌≡◌}
use Rattle.timetable.specs.Duties.{last_place}
use Rattle.timetable.specs.Lists.{listed}
use Rattle.week_units.proofs.standing.last_places.Given as goal

abbrev pub invariant-loop-unit : goal.invariant-loop-unit
invariant-loop-unit l = l.places.items ≡ listed (last_place l.instance l.plan) l.unit
