-- A yard is short of a unit first at a minute at which a trip leaves the station.
use Rattle.std.proofs.Common.{◌≡◌, ℕ, zero, suc, ◌+◌, ◌<◌, ◌≤◌, List, length, sym, ap, ◌∙◌, arith, ◌⊎◌, inl, inr, ◌≢◌}
use Rattle.std.specs.Prelude.{if◌then◌else◌, ◌==◌, ◌&&◌, nat_le}
use Rattle.std.specs.List.{Contains}
use Rattle.std.proofs.lemmas.Bool.{cases_eq}
use Rattle.std.proofs.lemmas.Bool.Decides.{nat_tests}
use Rattle.timetable.specs.Day.{Day, leaves, from_of, to_of, ready_at}
use Rattle.timetable.specs.Minutes.{AreMinutes, minutes_of}
use Rattle.timetable.specs.Starts.{start_of}
use Rattle.timetable.proofs.Minutes.{are_minutes}
use Rattle.inventory.specs.Counts.{takes_of, gives_of, taken_until, ready_until}
use Rattle.inventory.proofs.Sums.{sum_same, sum_le, sum_zero}

module _ (day : Day) (lists : List (List ℕ)) (s m : ℕ) where
  -- a trip below n that leaves the station at the minute
  record Leaving (minute n : ℕ) : Type 0 where
    trip : ℕ
    known : trip < n
    station : from_of day trip ≡ s
    at : leaves day trip ≡ minute

  leaving : (minute n : ℕ) → Leaving minute n ⊎ ((t : ℕ) → t < n → from_of day t ≡ s → leaves day t ≢ minute)
  leaving minute zero = inr (λ t lt. absurd (omega arith))
  leaving minute (suc n) = elim (leaving minute n) [
    | inl found ↦ inl (record { trip = found.trip; known = (let lt = found.known in omega arith); station = found.station; at = found.at })
    | inr none ↦ elim (cases_eq (from_of day n) s) [
      | inl there ↦ elim (cases_eq (leaves day n) minute) [
        | inl now ↦ inl (record { trip = n; known = omega arith; station = there; at = now })
        | inr not_now ↦ inr (λ t lt is. elim (cases_eq t n) [
          | inl e ↦ λ at. not_now (ap (leaves day) (sym e) ∙ at)
          | inr ne ↦ none t (omega arith) is
        ])
      ]
      | inr elsewhere ↦ inr (λ t lt is. elim (cases_eq t n) [
        | inl e ↦ λ at. elsewhere (ap (from_of day) (sym e) ∙ is)
        | inr ne ↦ none t (omega arith) is
      ])
    ]
  ]

  -- what a trip took by a minute is what it took by the minute before, where it does not leave the station at it
  same_takes : (from leave minute n : ℕ) → (from ≡ s → leave ≢ suc minute)
      → (if (from == s) && nat_le leave (suc minute) then n else 0) ≡ (if (from == s) && nat_le leave minute then n else 0)
  same_takes from leave minute n isnt = grind (arith, nat_tests)

  no_takes : (from leave n : ℕ) → (from ≡ s → leave ≢ 0) → (if (from == s) && nat_le leave 0 then n else 0) ≡ 0
  no_takes from leave n isnt = grind (arith, nat_tests)

  more_gives : (to ready minute n : ℕ) → (if (to == s) && nat_le ready minute then n else 0) ≤ (if (to == s) && nat_le ready (suc minute) then n else 0)
  more_gives to ready minute n = grind (arith, nat_tests)

  module _ (enough : (minute : ℕ) → Contains (minutes_of day s) minute → taken_until day lists s m minute ≤ start_of day s m + ready_until day lists s m minute) where
    pub always : (minute : ℕ) → taken_until day lists s m minute ≤ start_of day s m + ready_until day lists s m minute
    unfolding taken_until ready_until
    always zero = elim (leaving 0 (length day.trips)) [
      | inl found ↦ enough 0 (are.all 0 (record { trip = found.trip; known = found.known; station = found.station; minute = found.at }))
      | inr none ↦
          let nothing = sum_zero (λ t. if (from_of day t == s) && nat_le (leaves day t) 0 then takes_of day lists m t else 0) (length day.trips)
          (λ t lt. no_takes (from_of day t) (leaves day t) (takes_of day lists m t) (none t lt)) in
          omega arith
    ]
      where
        are : AreMinutes day s (minutes_of day s)
        are = are_minutes day s
    always (suc k) = elim (leaving (suc k) (length day.trips)) [
      | inl found ↦ enough (suc k) (are.all (suc k) (record { trip = found.trip; known = found.known; station = found.station; minute = found.at }))
      | inr none ↦
          let before = always k in
          let same = sum_same (λ t. if (from_of day t == s) && nat_le (leaves day t) (suc k) then takes_of day lists m t else 0) (λ t. if (from_of day t == s) && nat_le (leaves day t) k then takes_of day lists m t else 0) (length day.trips)
          (λ t lt. same_takes (from_of day t) (leaves day t) k (takes_of day lists m t) (none t lt)) in
          let more = sum_le (λ t. if (to_of day t == s) && nat_le (ready_at day t) k then gives_of day lists m t else 0) (λ t. if (to_of day t == s) && nat_le (ready_at day t) (suc k) then gives_of day lists m t else 0) (length day.trips)
          (λ t lt. more_gives (to_of day t) (ready_at day t) k (gives_of day lists m t)) in
          omega arith
    ]
      where
        are : AreMinutes day s (minutes_of day s)
        are = are_minutes day s
