-- The test for a frozen trip tells whether it is frozen.
use Rattle.std.proofs.Common.{◌≡◌, ℕ, Bool, true, sym, ap, ◌∙◌, inl, inr}
use Rattle.std.specs.Prelude.{◌||◌, nat_lt}
use Rattle.std.specs.List.{list_any}
use Rattle.std.proofs.lemmas.Bool.{cases_Bool, leb-true, le-leb, lt-ltb, ltb-true}
use Rattle.timetable.specs.Day.{Day, arrives, leaves}
use Rattle.timetable.specs.Links.{trips_into}
use Rattle.timetable.specs.Lists.{count_of}
use Rattle.cancellations.proofs.Passing.{any_has, first_true, has_any, second_true}
use Rattle.inventory.specs.NamedBefore.{IsFrozen}
use Rattle.replan.specs.RestsOfDays.{is_frozen}

module _ (day : Day) (minute t : ℕ) where
  pub frozen_passes : IsFrozen day minute t → is_frozen day minute t ≡ true
  frozen_passes (inl left) =
      first_true (nat_lt (leaves day t) minute) (list_any (λ a. nat_lt (arrives day a) minute) (trips_into day t))
      (lt-ltb (leaves day t) minute left)
  frozen_passes (inr (a, comes, arrived)) =
      second_true (nat_lt (leaves day t) minute) (list_any (λ a. nat_lt (arrives day a) minute) (trips_into day t))
      (any_has (λ a. nat_lt (arrives day a) minute) (trips_into day t) a (leb-true 1 (count_of a (trips_into day t)) comes)
      (lt-ltb (arrives day a) minute arrived))

  pub passes_frozen : is_frozen day minute t ≡ true → IsFrozen day minute t
  passes_frozen passes = elim (cases_Bool (nat_lt (leaves day t) minute)) [
    | inl left ↦ inl (ltb-true (leaves day t) minute left)
    | inr stays ↦
        let some = has_any (λ a. nat_lt (arrives day a) minute) (trips_into day t)
        (sym (ap (λ (b : Bool). b || list_any (λ a. nat_lt (arrives day a) minute) (trips_into day t)) stays) ∙ passes) in
        inr (some.0, le-leb 1 (count_of some.0 (trips_into day t)) some.1, ltb-true (arrives day some.0) minute some.2)
  ]
