-- The day without some trips, by the laws on it and on tables.
use Rattle.std.proofs.Common.{◌∙◌, ℕ, ◌+◌, ◌-◌, ◌*◌, ◌<◌, List, length, sym, ap, Option, unwrap_or}
use Rattle.std.specs.Prelude.{option_map}
use Rattle.compositions.specs.Composition.{carriages_of, first_seats_of, seats_of}
use Rattle.rules.specs.declared.records.Trip.{Trip}
use Rattle.timetable.specs.Cost.{missing_seats, trip_cost}
use Rattle.timetable.specs.Day.{Day, leaves, arrives, from_of, to_of, km_of, demand_of, first_demand_of}
use Rattle.timetable.specs.DerivedDays.{AreTripsLeft, TablesMakeDaysWithout, TripsThatAreLeft, new_number}
use Rattle.timetable.specs.DerivedDays.{tables_without, without_trips}
use Rattle.timetable.specs.Laws.{TablesMakeSoundDays}
use Rattle.timetable.proofs.LeftTables.{are_tables_without}
use Rattle.worked_answers.specs.LeftTrips.{DaysWithoutAreSound, LeftTripsRunAsBefore, RunsAsBefore}

pub sound_without : TablesMakeSoundDays → TablesMakeDaysWithout → DaysWithoutAreSound
sound_without sound without tables day gone are made =
    sound (tables_without gone tables) (without_trips gone day) (are_tables_without gone tables are)
    (without tables day gone made)

-- of a trip that is what it was
as_before : (day : Day) (gone : List ℕ) (t : ℕ) → AreTripsLeft day gone → t < length (without_trips gone day).trips
    → RunsAsBefore day gone t
unfolding leaves arrives from_of to_of km_of demand_of first_demand_of missing_seats trip_cost
as_before day gone t left there =
    let same = (left.each t there).same in
    record {
      leaving = ap (λ (o : Option Trip). unwrap_or (option_map (λ trip. trip.departure) o) 0) same;
      arriving = ap (λ (o : Option Trip). unwrap_or (option_map (λ trip. trip.arrival) o) 1) same;
      origin = ap (λ (o : Option Trip). unwrap_or (option_map (λ trip. trip.from) o) 0) same;
      goal = ap (λ (o : Option Trip). unwrap_or (option_map (λ trip. trip.to) o) 0) same;
      cost = λ types. ap (λ (o : Option Trip).
          day.weights.carriage * carriages_of day.types types * unwrap_or (option_map (λ trip. trip.km) o) 0
          + day.weights.shortage
          * ((unwrap_or (option_map (λ trip. trip.first) o) 0 - first_seats_of day.types types)
          + (unwrap_or (option_map (λ trip. trip.demand) o) 0 - seats_of day.types types))
          * unwrap_or (option_map (λ trip. trip.km) o) 0) same;
    }

pub run_as_before : TripsThatAreLeft → LeftTripsRunAsBefore
run_as_before law day gone =
    let left : AreTripsLeft day gone = law day gone in
    record {
      each = λ t there. as_before day gone t left there;
      apart = λ s t first second same.
          sym (left.each s first).number ∙ ap (new_number gone) same ∙ (left.each t second).number;
      every = λ t there stays.
          let is = left.all t there stays in (new_number gone t, is.after, is.number);
    }
