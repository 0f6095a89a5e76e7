-- Which trips are late, by the minute at which the first trip of the next day leaves.
use Rattle.std.proofs.Common.{◌≡◌, ℕ, ◌+◌, ◌<◌, ◌≤◌, Bool, true, false, ltb, refl, arith, inl, inr}
use Rattle.std.proofs.lemmas.Bool.{ltb-false, ltb-true}
use Rattle.timetable.specs.Day.{Day, leaves, ready_at}
use Rattle.week_units.specs.declared.nights.TheConstants.{MINUTES_OF_A_DAY}
use Rattle.week_units.specs.NightParts.{IsFirstMinute}
use Rattle.week_units.specs.Laws.{IsInTime, LateTripsAreReadyTooLate}
use Rattle.week_units.specs.Weeks.{IsLate}

module _ (before day : Day) (minute t : ℕ) (first : IsFirstMinute day minute) where
  pub is_late : MINUTES_OF_A_DAY + minute < ready_at before t → IsLate before day t
  is_late more = elim first.is [
    | inl one ↦ inl (one.0, one.1, (let same = one.2 in omega arith))
    | inr none ↦ inr (none.0, (let same = none.1 in omega arith))
  ]

  pub is_in_time : ready_at before t ≤ MINUTES_OF_A_DAY + minute → ¬ IsLate before day t
  is_in_time most late = elim late [
    | inl trip ↦ let least = first.least trip.0 trip.1 in let more = trip.2 in absurd (omega arith)
    | inr none ↦ elim first.is [
      | inl one ↦ let known = one.1 in let no_trip = none.0 in absurd (omega arith)
      | inr zero_is ↦ let same = zero_is.1 in let more = none.1 in absurd (omega arith)
    ]
  ]

-- ---- with the minutes of a day written out

not_more : (x y : ℕ) → ¬ (x < y) → y ≤ x
not_more x y never = by (ltb x y) refl
  where
    by : (b : Bool) → ltb x y ≡ b → y ≤ x
    by true is = absurd (never (ltb-true x y is))
    by false is = ltb-false x y is

in_time_if : (before day : Day) (t : ℕ) → ¬ IsLate before day t → IsInTime before day t
in_time_if before day t never = record {
  for_each = λ b known. not_more (1440 + leaves day b) (ready_at before t) (λ more. never (inl (b, known, more)));
  at_start = λ none. not_more 1440 (ready_at before t) (λ more. never (inr (none, omega (arith, more))));
}

late_if_not : (before day : Day) (t : ℕ) → IsInTime before day t → ¬ IsLate before day t
late_if_not before day t so late = elim late [
  | inl trip ↦ let most = so.for_each trip.0 trip.1 in let more = trip.2 in absurd (omega (arith, most, more))
  | inr none ↦ let most = so.at_start none.0 in let more = none.1 in absurd (omega (arith, most, more))
]

pub late_trips : LateTripsAreReadyTooLate
late_trips before day t = (in_time_if before day t, late_if_not before day t)
