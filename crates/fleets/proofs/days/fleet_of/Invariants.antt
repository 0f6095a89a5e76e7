-- The numbers so far.
use Rattle.std.proofs.Common.{◌≡◌}
use Rattle.timetable.specs.Lists.{listed}
use Rattle.fleets.specs.Fleets.{start_at}
use Rattle.fleets.proofs.days.fleet_of.Given as goal

abbrev pub invariant-loop-place : goal.invariant-loop-place
invariant-loop-place l = l.counts.items ≡ listed (start_at l.instance) l.place
