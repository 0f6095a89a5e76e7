-- The trips so far have their places.
use Rattle.std.proofs.Common.{◌≡◌, ◌<◌, length}
use Rattle.std.specs.List.{All}
use Rattle.timetable.specs.Lists.{listed}
use Rattle.price_bound.specs.YardTables.{taken_at}
use Rattle.price_bound.proofs.yard_places.taken_places.Given as goal

abbrev pub invariant-loop-trip : goal.invariant-loop-trip
invariant-loop-trip l = record {
  each : l.places.items ≡ listed (taken_at l.instance) l.trip;
  known : All (λ place. place.station < length l.instance.stations) l.places.items;
}
