-- The compositions that were planned, by their numbers in the later day.
use Rattle.std.proofs.Common.{◌≡◌, ℕ, zero, suc, ◌<◌, List, [], ◌∷◌, length, true, Option, Some}
use Rattle.std.proofs.Common.{sym, ap, ◌∙◌, inl, inr, unwrap_or}
use Rattle.std.specs.Prelude.{slice_get}
use Rattle.std.specs.List.{find, position_or_len}
use Rattle.std.proofs.lemmas.Bool.{cases_Bool, cond-true, cond-false}
use Rattle.std.proofs.lemmas.List.Folds.{find_at}
use Rattle.std.proofs.lemmas.Option.{slice_get_within}
use Rattle.std.proofs.lemmas.Slice.Eq.{bytes_eq-Decides}
use Rattle.timetable.specs.Admissible.{is_admissible}
use Rattle.timetable.specs.Compositions.{compositions_of, composition_at}
use Rattle.timetable.specs.DerivedDays.{old_number}
use Rattle.timetable.specs.Turns.{same}
use Rattle.timetable.proofs.AdmittedTypes.{CompositionOf, composition_of}
use Rattle.timetable.proofs.Shares.{same_lists}
use Rattle.transitions.proofs.Numbers.{at_number}
use Rattle.price_bound.proofs.Solving.{same_number}
use Rattle.replan.specs.Disturbances.{Disturbed, later_day, planned_types, trips_later}
use Rattle.replan.specs.Laws.{IsUnderWay}
use Rattle.replan.specs.RestsOfDays.{planned_comp}
use Rattle.replan.proofs.LaterFacts.{old_below, same_admissible, same_compositions}

pub are_same : (xs ys : List ℕ) → xs ≡ ys → same xs ys ≡ true
are_same xs ys e = (bytes_eq-Decides xs ys).1 e

-- the first list that is one is found where some is
find_same : (lists : List (List ℕ)) (list : List ℕ) (k : ℕ) → slice_get lists k ≡ Some list
    → find (λ one. same one list) lists ≡ Some list
find_same [] list k at = absurd cc
find_same (one ∷ lists) list zero at =
    let is : one ≡ list = cc in
    cond-true (same one list) (Some one) (find (λ one. same one list) lists) (are_same one list is)
    ∙ ap (λ (ms : List ℕ). Some ms) is
find_same (one ∷ lists) list (suc k) at =
    let rest : find (λ one. same one list) lists ≡ Some list = find_same lists list k at in
    elim (cases_Bool (same one list)) [
      | inl is ↦
          cond-true (same one list) (Some one) (find (λ one. same one list) lists) is
          ∙ ap (λ (ms : List ℕ). Some ms) (same_lists one list is)
      | inr isnt ↦ cond-false (same one list) (Some one) (find (λ one. same one list) lists) isnt ∙ rest
    ]

-- it stands at its place
place_of : (lists : List (List ℕ)) (list : List ℕ) (k : ℕ) → slice_get lists k ≡ Some list
    → slice_get lists (position_or_len (λ one. same one list) lists) ≡ Some list
place_of lists list k at = sym (find_at (λ one. same one list) lists) ∙ find_same lists list k at

module _ (disturbed : Disturbed) (way : IsUnderWay disturbed) where
  abbrev later_compositions : List (List ℕ)
  later_compositions = compositions_of (later_day disturbed)

  -- the types that were planned for a trip are those of a composition
  planned_of : (t : ℕ) → t < trips_later disturbed → CompositionOf disturbed.day (planned_types disturbed t)
  planned_of t lt =
      composition_of disturbed.day (old_number disturbed.day disturbed.cancelled t) (planned_types disturbed t)
      (way.runs.lists (old_number disturbed.day disturbed.cancelled t) (old_below disturbed t lt)).admissible

  planned_at : (t : ℕ) → t < trips_later disturbed
      → slice_get later_compositions (planned_comp disturbed t) ≡ Some (planned_types disturbed t)
  unfolding planned_comp
  planned_at t lt =
      let some : CompositionOf disturbed.day (planned_types disturbed t) = planned_of t lt in
      place_of later_compositions (planned_types disturbed t) some.comp
      (ap (λ (cs : List (List ℕ)). slice_get cs some.comp) (same_compositions disturbed)
      ∙ at_number disturbed.day some.comp some.listed ∙ ap (λ (ms : List ℕ). Some ms) some.is)

  pub planned_listed : (t : ℕ) → t < trips_later disturbed → planned_comp disturbed t < length later_compositions
  planned_listed t lt = slice_get_within later_compositions (planned_comp disturbed t) (planned_types disturbed t) (planned_at t lt)

  pub planned_is : (t : ℕ) → t < trips_later disturbed
      → composition_at (later_day disturbed) (planned_comp disturbed t) ≡ planned_types disturbed t
  planned_is t lt = ap (λ (o : Option (List ℕ)). unwrap_or o []) (planned_at t lt)

  -- no other composition has these types
  pub planned_alone : (t comp : ℕ) → t < trips_later disturbed → comp < length later_compositions
      → composition_at (later_day disturbed) comp ≡ planned_types disturbed t → comp ≡ planned_comp disturbed t
  planned_alone t comp lt listed is =
      same_number (later_day disturbed) comp (planned_comp disturbed t) listed (planned_listed t lt) (is ∙ sym (planned_is t lt))

  -- it may run on the trip of the later day too
  pub planned_admissible : (t : ℕ) → t < trips_later disturbed
      → is_admissible (later_day disturbed) t (planned_types disturbed t) ≡ true
  planned_admissible t lt =
      same_admissible disturbed t (planned_types disturbed t) lt
      ∙ (way.runs.lists (old_number disturbed.day disturbed.cancelled t) (old_below disturbed t lt)).admissible
