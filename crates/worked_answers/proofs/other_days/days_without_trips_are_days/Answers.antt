use Rattle.worked_answers.proofs.LeftTrips.{run_as_before, sound_without}
use Rattle.worked_answers.proofs.other_days.days_without_trips_are_days.Goals as goal

pub returns : goal.returns
returns c = record {
  sound = sound_without c.tables_make_sound_days.ensures.law c.tables_make_days_without.ensures.law;
  trips = run_as_before c.trips_that_are_left.ensures.law;
}
