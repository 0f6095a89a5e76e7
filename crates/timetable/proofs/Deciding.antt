-- Tests decide what is made of tables and rows.
use Rattle.std.proofs.Common.{◌≡◌, ℕ, List, [], ◌∷◌, Result, Ok, Err, ⊎_elim, refl, sym, subst, ◌∙◌}
use Rattle.std.specs.Prelude.{length, nat_lt, if◌then◌else◌}
use Rattle.std.proofs.lemmas.Bool.{ltb-false, false≢true}
use Rattle.rail_csv.specs.declared.rows.PlanRow.{PlanRow}
use Rattle.day_tables.specs.declared.building.refusal.PlanRefusal.TheVariants.{MissingTrip}
use Rattle.timetable.specs.Day.{Day}
use Rattle.timetable.specs.Laws.{IsDecided, DaysAreMade, PlansAreMade, ChainsAreOne}
use Rattle.timetable.specs.Build.{day_of}
use Rattle.timetable.specs.Plans.{lists_in, plan_of, plan_tests, IsPlanOf}
use Rattle.timetable.specs.Refusals.{day_tests}
use Rattle.timetable.specs.Tests.{Test, NoneFailed, IsFirstFailed}
use Rattle.timetable.proofs.Refused as refused
use Rattle.timetable.proofs.Plans as plans
use Rattle.timetable.proofs.Plans.{plan_is_said, plan_is_meant}
use Rattle.timetable.proofs.Accepting.{bind_ok, guard_ok, same_ok}
use Rattle.timetable.proofs.Meant.{day_is_meant}
use Rattle.timetable.proofs.Said.{is_day_of}
use Rattle.timetable.proofs.SameChains.{chains_are_one}

module _ {E : Type 0} where
  not_both : (tests : List (Test E)) (refusal : E) → NoneFailed tests → IsFirstFailed tests refusal → ⊥
  not_both [] refusal none first = first
  not_both (test ∷ tests) refusal none first = ⊎_elim (λ (h : test.fault × (refusal ≡ test.refusal)). none.0 h.0) (λ (h : (¬ test.fault) × IsFirstFailed tests refusal). not_both tests refusal none.1 h.1) first

  one_first : (tests : List (Test E)) (c d : E) → IsFirstFailed tests c → IsFirstFailed tests d → c ≡ d
  one_first [] c d first first' = absurd first
  one_first (test ∷ tests) c d first first' =
      ⊎_elim
      (λ (h : test.fault × (c ≡ test.refusal)). ⊎_elim (λ (k : test.fault × (d ≡ test.refusal)). h.1 ∙ sym k.1) (λ (k : (¬ test.fault) × IsFirstFailed tests d). absurd (k.0 h.0)) first')
      (λ (h : (¬ test.fault) × IsFirstFailed tests c). ⊎_elim (λ (k : test.fault × (d ≡ test.refusal)). absurd (h.0 k.0)) (λ (k : (¬ test.fault) × IsFirstFailed tests d). one_first tests c d h.1 k.1) first')
      first

  decided : (X : Type 0) (made : Result X E) (tests : List (Test E)) → ((x : X) → made ≡ Ok x → NoneFailed tests) → ((d : E) → made ≡ Err d → IsFirstFailed tests d) → IsDecided made tests
  decided X (Ok x) tests passes fails = record {
    passed = ((λ _. passes x refl), (λ _. refl));
    refused = λ refusal. ((λ e. absurd cc), (λ first. absurd (not_both tests refusal (passes x refl) first)));
  }
  decided X (Err d) tests passes fails = record {
    passed = ((λ ok. absurd (false≢true ok)), (λ none. absurd (not_both tests d none (fails d refl))));
    refused = λ refusal. ((λ e. fails refusal e), (λ first. let same : d ≡ refusal = one_first tests d refusal (fails d refl) first in subst (λ (x : E). ◌≡◌ {A = Result X E} (Err d) (Err x)) same refl));
  }

pub days_are_made : DaysAreMade
days_are_made = record {
  decided = λ tables. decided Day (day_of tables) (day_tests tables) (refused.none_failed tables) (refused.first_failed tables);
  meaning = λ tables day. (is_day_of tables day, day_is_meant tables day);
}

-- the plan that was made is that of the rows
is_plan_of : (day : Day) (rows : List PlanRow) (plan : List (List ℕ)) → plan_of day rows ≡ Ok plan → IsPlanOf day rows plan
unfolding plan_of
is_plan_of day rows plan e =
    let (lists, made, e0) = bind_ok (lists_in day rows) (λ plan. if nat_lt (length rows) (length day.trips) then Err (MissingTrip (length rows)) else Ok plan) plan e in
    let (all, e1) = guard_ok (nat_lt (length rows) (length day.trips)) (MissingTrip (length rows)) (Ok lists) plan e0 in
    let same : lists ≡ plan = same_ok lists plan e1 in
    subst (IsPlanOf day rows) same (plan_is_said day rows lists made (ltb-false (length rows) (length day.trips) all))

pub plans_are_made : PlansAreMade
plans_are_made = record {
  decided = λ day rows. decided (List (List ℕ)) (plan_of day rows) (plan_tests day rows) (plans.none_failed day rows) (plans.first_failed day rows);
  meaning = λ day rows plan. (is_plan_of day rows plan, plan_is_meant day rows plan);
}

pub chains_are_all_one : ChainsAreOne
chains_are_all_one day some others links are are' = chains_are_one day some others links are are'
