use Rattle.std.proofs.Common.{ℕ, ◌≤◌, Option, length}
use Rattle.inventory.specs.NamedUnits.{InYard}
use Rattle.timetable.specs.Day.{from_of, leaves}
use Rattle.unit_duties.specs.FetchedUnits.{CanFetch}
use Rattle.unit_duties.specs.Trains.{taken_types}
use Rattle.unit_duties.proofs.Fetching.{FetchedSoFar}
use Rattle.unit_duties.proofs.naming.fetch.Given as goal

abbrev pub invariant-loop-unit_type : goal.invariant-loop-unit_type
invariant-loop-unit_type l = record {
  few : length l.fetched.items ≤ l.unit_type-index;
  rule : (stands : ℕ → Option InYard) → CanFetch l.instance l.picks l.fn.trip stands l.initial.yards
      → FetchedSoFar l.instance stands (from_of l.instance l.fn.trip) (leaves l.instance l.fn.trip) (taken_types l.instance l.picks l.fn.trip) l.unit_type-index l.fetched.items l.yards;
}
