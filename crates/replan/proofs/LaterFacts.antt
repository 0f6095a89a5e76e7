-- The later day of a disturbed day: what it has of the day.
use Rattle.std.proofs.Common.{◌≡◌, ℕ, ◌<◌, List, [], length, false, IsTrue, Option, refl, ap, arith}
use Rattle.std.specs.Prelude.{min, option_map, slice_get, unwrap_or}
use Rattle.std.proofs.lemmas.Bool.{false_from_ne_true}
use Rattle.compositions.specs.Composition.{fits_in}
use Rattle.rules.specs.declared.records.Trip.{Trip}
use Rattle.timetable.specs.Accepted.{IsSoundDay}
use Rattle.timetable.specs.Admissible.{is_admissible}
use Rattle.timetable.specs.Compositions.{compositions_of, composition_at, greatest_platform}
use Rattle.timetable.specs.Day.{Day, from_of, platform_of, to_of, type_of, types_of, units_of}
use Rattle.timetable.specs.DerivedDays.{old_number}
use Rattle.timetable.specs.Lists.{has, of_entry}
use Rattle.timetable.proofs.TripsLeft.{trips_that_are_left}
use Rattle.unit_duties.specs.LaterDays.{IsLaterDay, IsPastSpared}
use Rattle.unit_duties.proofs.DaysWithout.{days_without_are_later}
use Rattle.cancellations.specs.Cancellations.{AreCancellable}
use Rattle.replan.specs.Disturbances.{Disturbed, IsDisturbance, later_day, trips_later}

-- what may be cancelled at a minute has no part in the past
pub past_is_spared : (day : Day) (gone : List ℕ) (minute : ℕ) → AreCancellable day minute gone → IsPastSpared day gone minute
past_is_spared day gone minute can = record {
  trips = λ t lt departed.
      not_gone t (λ there. let waits = (can.each t there).waits in omega (arith, departed, waits));
  beside = λ l b c link at goes_b goes_c departed.
      not_gone c (λ there. let waits = (can.each c there).beside l b link at goes_c goes_b in omega (arith, departed, waits));
}
  where
    not_gone : (t : ℕ) → (IsTrue (has t gone) → ⊥) → has t gone ≡ false
    not_gone t isnt = false_from_ne_true (has t gone) isnt

module _ (disturbed : Disturbed) where
  pub is_later : IsDisturbance disturbed → IsSoundDay disturbed.day
      → IsLaterDay disturbed.day (later_day disturbed) (old_number disturbed.day disturbed.cancelled) disturbed.minute
  is_later given sound =
      days_without_are_later disturbed.day disturbed.cancelled disturbed.minute sound.limits.timetable sound.links
      (past_is_spared disturbed.day disturbed.cancelled disturbed.minute given.cancellable)

  pub same_types : (us : List ℕ) → types_of (later_day disturbed) us ≡ types_of disturbed.day us
  unfolding units_of type_of
  same_types us = refl

  pub same_compositions : compositions_of (later_day disturbed) ≡ compositions_of disturbed.day
  unfolding greatest_platform
  same_compositions = refl

  pub same_composition : (comp : ℕ) → composition_at (later_day disturbed) comp ≡ composition_at disturbed.day comp
  same_composition comp = ap (λ (cs : List (List ℕ)). unwrap_or (slice_get cs comp) []) same_compositions

  -- a trip has the platforms that it had
  pub same_admissible : (t : ℕ) (types : List ℕ) → t < trips_later disturbed
      → is_admissible (later_day disturbed) t types
      ≡ is_admissible disturbed.day (old_number disturbed.day disturbed.cancelled t) types
  unfolding is_admissible from_of to_of platform_of
  same_admissible t types lt =
      ap (λ (o : Option Trip). fits_in disturbed.day.types
      (min (of_entry (λ station. station.platform) disturbed.day.stations (unwrap_or (option_map (λ trip. trip.from) o) 0) 0)
      (of_entry (λ station. station.platform) disturbed.day.stations (unwrap_or (option_map (λ trip. trip.to) o) 0) 0)) types)
      ((trips_that_are_left disturbed.day disturbed.cancelled).each t lt).same

  pub old_below : (t : ℕ) → t < trips_later disturbed → old_number disturbed.day disturbed.cancelled t < length disturbed.day.trips
  old_below t lt = ((trips_that_are_left disturbed.day disturbed.cancelled).each t lt).before
