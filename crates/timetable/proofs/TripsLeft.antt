-- The trips that are left once some are gone, by their numbers before and then.
use Rattle.std.proofs.Common.{◌≡◌, ◌∙◌, ℕ, ◌<◌, false, List, length, sym, ap, Option, slice_get, unwrap_or}
use Rattle.std.proofs.lemmas.Option.{slice_get_within}
use Rattle.timetable.specs.Day.{Day}
use Rattle.timetable.specs.DerivedDays.{new_number, old_number, left, without_trips}
use Rattle.timetable.specs.DerivedDays.{IsTripLeft, StaysTrip, AreTripsLeft, TripsThatAreLeft}
use Rattle.timetable.specs.Lists.{has, listed}
use Rattle.timetable.proofs.Days.{entry_at}
use Rattle.timetable.proofs.LeftEntries.{left_at, was_at}
use Rattle.timetable.proofs.Listing.{get_listed}

module _ (day : Day) (gone : List ℕ) where
  -- the number before of one that stays
  old_is : (k : ℕ) → k < length day.trips → has k gone ≡ false → old_number day gone (new_number gone k) ≡ k
  old_is k below stays = ap (λ (o : Option ℕ). unwrap_or o 0) (left_at gone (listed (λ k. k) (length day.trips)) k k (get_listed (λ k. k) (length day.trips) k below) stays)

  was_left : (t : ℕ) → t < length (without_trips gone day).trips → IsTripLeft day gone t
  was_left t below =
      let (trip, at, _) = entry_at (λ _. Unit {0}) (without_trips gone day).trips t below (λ k d b. tt) in
      let (k, before, stays, number) = was_at gone day.trips t trip at in
      let within : k < length day.trips = slice_get_within day.trips k trip before in
      let old : old_number day gone t ≡ k = ap (old_number day gone) (sym number) ∙ old_is k within stays in
      record {
        before = rw (old) within;
        stays = ap (λ (n : ℕ). has n gone) old ∙ stays;
        number = ap (new_number gone) old ∙ number;
        same = at ∙ sym before ∙ ap (slice_get day.trips) (sym old);
      }

  stays_then : (t : ℕ) → t < length day.trips → has t gone ≡ false → StaysTrip day gone t
  stays_then t below stays =
      let (trip, at, _) = entry_at (λ _. Unit {0}) day.trips t below (λ k d b. tt) in
      record {
        after = slice_get_within (left gone day.trips) (new_number gone t) trip (left_at gone day.trips t trip at stays);
        number = old_is t below stays;
      }

  are_left : AreTripsLeft day gone
  are_left = record { each = was_left; all = stays_then }

pub trips_that_are_left : TripsThatAreLeft
trips_that_are_left = are_left
