-- Seats are missing by class: the demand less the seats, and none where there are enough.
use Rattle.std.proofs.Common.{ℕ, ◌-◌, refl, arith}
use Rattle.compositions.specs.Composition.{seats_of, first_seats_of}
use Rattle.timetable.specs.Cost.{missing_seats}
use Rattle.timetable.specs.Day.{demand_of, first_demand_of}
use Rattle.timetable.specs.Laws.{AreMissing, SeatsAreMissingByClass}

are_missing : (seats demand : ℕ) → AreMissing seats demand (demand - seats)
are_missing seats demand = record { enough = λ enough. omega arith; short = λ short. omega arith }

pub seats_are_missing_by_class : SeatsAreMissingByClass
unfolding missing_seats
seats_are_missing_by_class day t types = record {
  first = first_demand_of day t - first_seats_of day.types types;
  second = demand_of day t - seats_of day.types types;
  of_first = are_missing (first_seats_of day.types types) (first_demand_of day t);
  of_second = are_missing (seats_of day.types types) (demand_of day t);
  together = refl;
}
