-- The tests of a chosen fleet and its plan.
use Rattle.std.proofs.Common.{◌≡◌, ℕ, zero, suc, ◌+◌, ◌<◌, ◌≤◌, List, [], ◌∷◌, length, take, slice_get, Some, subst, arith}
use Rattle.std.proofs.Common.{true, false, inl, inr, IsTrue}
use Rattle.std.proofs.lemmas.Bool.{cases_lt}
use Rattle.std.proofs.lemmas.List.{take_all}
use Rattle.timetable.specs.Day.{Day, unit_count}
use Rattle.timetable.specs.Links.{list_of}
use Rattle.timetable.specs.Lists.{has}
use Rattle.timetable.specs.Plans.{are_units}
use Rattle.timetable.specs.Running.{AreUnits, IsPlan}
use Rattle.fleets.specs.Fleets.{IsNowhereAbove}
use Rattle.fleets.proofs.Sizes.{as_long}
use Rattle.answer_check.proofs.KnownUnits.{known_units, none_past, unknown_units}

pub never : IsTrue false → ⊥
never none = cc

-- ---- nowhere above

-- one place more
above_suc : (fleet most : List ℕ) (k a b : ℕ) → slice_get fleet k ≡ Some a → slice_get most k ≡ Some b → a ≤ b
    → IsNowhereAbove (take k fleet) (take k most) → IsNowhereAbove (take (suc k) fleet) (take (suc k) most)
above_suc [] most k a b at there low before = absurd cc
above_suc (x ∷ fleet) [] k a b at there low before = absurd cc
above_suc (x ∷ fleet) (y ∷ most) zero a b at there low before =
    let first : x ≡ a = cc in
    let second : y ≡ b = cc in
    ((omega (arith, first, second, low)), tt)
above_suc (x ∷ fleet) (y ∷ most) (suc k) a b at there low before =
    (before.0, above_suc fleet most k a b at there low before.1)

pub one_more_place : (fleet most : List ℕ) (k a b : ℕ) → slice_get fleet k ≡ Some a → slice_get most k ≡ Some b → a ≤ b
    → IsNowhereAbove (take k fleet) (take k most) → IsNowhereAbove (take (k + 1) fleet) (take (k + 1) most)
one_more_place fleet most k a b at there low before =
    subst (λ (n : ℕ). IsNowhereAbove (take n fleet) (take n most)) (next k) (above_suc fleet most k a b at there low before)
  where
    next : (n : ℕ) → suc n ≡ n + 1
    next n = omega arith

-- more units somewhere
pub more_there : (fleet most : List ℕ) (k a b : ℕ) → slice_get fleet k ≡ Some a → slice_get most k ≡ Some b → b < a
    → IsNowhereAbove fleet most → ⊥
more_there [] most k a b at there more below = absurd cc
more_there (x ∷ fleet) [] k a b at there more below = absurd below
more_there (x ∷ fleet) (y ∷ most) zero a b at there more below =
    let first : x ≡ a = cc in
    let second : y ≡ b = cc in
    omega (arith, first, second, more, below.0)
more_there (x ∷ fleet) (y ∷ most) (suc k) a b at there more below = more_there fleet most k a b at there more below.1

pub all_places : (fleet most : List ℕ) (k : ℕ) → length fleet ≤ k → length fleet ≡ length most
    → IsNowhereAbove (take k fleet) (take k most) → IsNowhereAbove fleet most
all_places fleet most k past same below =
    subst (λ (xs : List ℕ). IsNowhereAbove xs most) (take_all k fleet past)
    (subst (λ (ys : List ℕ). IsNowhereAbove (take k fleet) ys) (take_all k most (omega (arith, past, same))) below)

pub other_length : (fleet most : List ℕ) → ¬ (length fleet ≡ length most) → IsNowhereAbove fleet most → ⊥
other_length fleet most differs below = differs (as_long fleet most below)

-- ---- plans of a day

-- one list more
pub one_more_list : (day : Day) (plan : List (List ℕ)) (trip : ℕ) → ((t : ℕ) → t < trip → AreUnits day (list_of plan t))
    → are_units day (list_of plan trip) ≡ true → (t : ℕ) → t < trip + 1 → AreUnits day (list_of plan t)
one_more_list day plan trip before known t below = elim (cases_lt t trip) [
  | inl earlier ↦ before t earlier
  | inr past ↦
      let here : trip ≡ t = omega (arith, below, past) in
      subst (λ (k : ℕ). AreUnits day (list_of plan k)) here (known_units (unit_count day) (list_of plan trip) known)
]

pub are_a_plan : (day : Day) (plan : List (List ℕ)) (trip : ℕ) → length plan ≡ length day.trips → length plan ≤ trip
    → ((t : ℕ) → t < trip → AreUnits day (list_of plan t)) → IsPlan day plan
are_a_plan day plan trip long past each = record { trips = long; units = known }
  where
    known : (t u : ℕ) → IsTrue (has u (list_of plan t)) → u < unit_count day
    known t = elim (cases_lt t trip) [
      | inl before ↦ each t before
      | inr after ↦ none_past (unit_count day) plan t (omega (arith, past, after))
    ]

pub unknown_list : (day : Day) (plan : List (List ℕ)) (trip : ℕ) → are_units day (list_of plan trip) ≡ false → IsPlan day plan → ⊥
unknown_list day plan trip none is = unknown_units (unit_count day) (list_of plan trip) none (is.units trip)
