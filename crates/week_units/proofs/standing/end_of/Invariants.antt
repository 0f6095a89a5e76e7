-- What is left of the stops ends where all end.
use Rattle.std.proofs.Common.{◌≡◌, drop, map}
use Rattle.timetable.specs.Duties.{ends_at}
use Rattle.week_units.proofs.standing.end_of.Given as goal

abbrev pub invariant-loop-stop : goal.invariant-loop-stop
invariant-loop-stop l = ends_at l.instance l.place (map (λ stop. stop.trip) (drop l.stop-index l.stops)) ≡ ends_at l.instance l.fn.station (map (λ stop. stop.trip) l.stops)
