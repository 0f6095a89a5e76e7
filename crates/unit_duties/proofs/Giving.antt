-- Units that are put into a yard, one after another.
use Rattle.std.proofs.Common.{◌≡◌, ◌∙◌, ◌≢◌, ℕ, ◌≤◌, ◌⊎◌, inl, inr, List, [], ◌∷◌, ◌++◌, true, cond, refl, sym, ap}
use Rattle.std.proofs.Common.{subst, arith, ⊎_elim}
use Rattle.std.specs.Prelude.{◌↔◌}
use Rattle.std.specs.BTreeSet.{BTreeSet, contains}
use Rattle.std.specs.List.{Contains}
use Rattle.std.specs.Ordering.{is_eq}
use Rattle.std.proofs.lemmas.Bool.{cases_eq}
use Rattle.std.proofs.lemmas.Bool.Decides.{nat_tests}
use Rattle.timetable.specs.Day.{Day, type_of}
use Rattle.timetable.specs.Lists.{count_of}
use Rattle.unit_duties.specs.declared.yards.Waiting.{Waiting}
use Rattle.unit_duties.specs.Yards.{ArePutIn}
use Rattle.unit_duties.proofs.AtHome.{same_waiting}
use Rattle.unit_duties.proofs.WaitingOrder.{order, put_into}

pub put_none : (day : Day) (s ready : ℕ) (yards : BTreeSet Waiting) → ArePutIn day s ready [] yards yards
put_none day s ready yards = record { each = λ w. (λ h. inr h, λ h. ⊎_elim (λ (put : (1 ≤ 0) × (w.station ≡ s) × (w.unit_type ≡ type_of day w.unit) × (w.ready ≡ ready)). let no = put.0 in absurd (omega arith)) (λ (old : Contains yards.keys w). old) h) }

count_push : (u v : ℕ) (us : List ℕ) → 1 ≤ count_of u (us ++ v ∷ []) → (v ≡ u) ⊎ (1 ≤ count_of u us)
count_push u v [] h = ⊎_elim (λ (e : v ≡ u). inl e) (λ (ne : v ≢ u). absurd (grind (arith, nat_tests))) (cases_eq v u)
count_push u v (x ∷ us) h = ⊎_elim
    (λ (e : x ≡ u). inr (grind (arith, nat_tests)))
    (λ (ne : x ≢ u). let less : 1 ≤ count_of u (us ++ v ∷ []) = grind (arith, nat_tests) in ⊎_elim (λ (e : v ≡ u). inl e) (λ (more : 1 ≤ count_of u us). inr (omega arith)) (count_push u v us less))
    (cases_eq x u)

count_last : (u : ℕ) (us : List ℕ) → 1 ≤ count_of u (us ++ u ∷ [])
count_last u [] = grind (arith, nat_tests)
count_last u (x ∷ us) = omega (arith, count_last u us)

count_more : (u v : ℕ) (us : List ℕ) → 1 ≤ count_of u us → 1 ≤ count_of u (us ++ v ∷ [])
count_more u v [] h = absurd (omega arith)
count_more u v (x ∷ us) h = ⊎_elim
    (λ (e : x ≡ u). grind (arith, nat_tests))
    (λ (ne : x ≢ u). let less : 1 ≤ count_of u us = grind (arith, nat_tests) in omega (arith, count_more u v us less))
    (cases_eq x u)

-- one unit more
pub put_more : (day : Day) (s ready m v : ℕ) (us : List ℕ) (before yards after : BTreeSet Waiting) → type_of day v ≡ m → ArePutIn day s ready us before yards
    → ((q : Waiting) → contains order after q ≡ cond (is_eq (order (record { station = s; unit_type = m; ready = ready; unit = v }) q)) true (contains order yards q))
    → ArePutIn day s ready (us ++ v ∷ []) before after
put_more day s ready m v us before yards after em so_far updates = record { each = λ w. (out w, back w) }
  where
    step : (w : Waiting) → Contains after.keys w ↔ ((w ≡ record { station = s; unit_type = m; ready = ready; unit = v }) ⊎ Contains yards.keys w)
    step w = put_into yards after (record { station = s; unit_type = m; ready = ready; unit = v }) updates w

    out : (w : Waiting) → Contains after.keys w → ((1 ≤ count_of w.unit (us ++ v ∷ [])) × (w.station ≡ s) × (w.unit_type ≡ type_of day w.unit) × (w.ready ≡ ready)) ⊎ Contains before.keys w
    out w there = elim ((step w).0 there) [
      | inl e ↦ inl (subst (λ (x : Waiting). (1 ≤ count_of x.unit (us ++ v ∷ [])) × (x.station ≡ s) × (x.unit_type ≡ type_of day x.unit) × (x.ready ≡ ready)) (sym e) (count_last v us, refl, sym em, refl))
      | inr old ↦ elim ((so_far.each w).0 old) [
        | inl put ↦ inl (count_more w.unit v us put.0, put.1, put.2, put.3)
        | inr first ↦ inr first
      ]
    ]

    back : (w : Waiting) → ((1 ≤ count_of w.unit (us ++ v ∷ [])) × (w.station ≡ s) × (w.unit_type ≡ type_of day w.unit) × (w.ready ≡ ready)) ⊎ Contains before.keys w → Contains after.keys w
    back w h = elim h [
      | inl put ↦ elim (count_push w.unit v us put.0) [
        | inl e ↦ (step w).1 (inl (same_waiting w s m ready v put.1 (put.2 ∙ ap (type_of day) (sym e) ∙ em) put.3 (sym e)))
        | inr more ↦ (step w).1 (inr ((so_far.each w).1 (inl (more, put.1, put.2, put.3))))
      ]
      | inr first ↦ (step w).1 (inr ((so_far.each w).1 (inr first)))
    ]
