-- The fixed order of a day's events, made by a stable sort.
use Rattle.std.proofs.Common.{◌≡◌, ℕ, suc, ◌+◌, ◌≤◌, List, [], ◌∷◌, ◌++◌, Bool, true, false, cond}
use Rattle.std.proofs.Common.{leb, refl, sym, ap, ◌∙◌, arith, append_assoc}
use Rattle.std.specs.Prelude.{◌==◌}
use Rattle.std.specs.Ordering.{nat_cmp}
use Rattle.std.proofs.lemmas.Bool.{cond_both, leb-true, leb-false, eqb-true}
use Rattle.std.specs.List.Sorted.{IsSortedByKey, IsStableByKey}
use Rattle.std.specs.Borrow.{Bor}
use denote.Param.Members.{Mut}
use Rattle.std.specs.Fn.{ComputesKey, Called}
use Rattle.timetable.specs.Day.{Day}
use Rattle.timetable.specs.Lists.{below}
use Rattle.day_simulator.specs.declared.events.DayEvent.{DayEvent}
use Rattle.day_simulator.specs.declared.events.DayEvent.TheVariants.{Depart, Arrive}
use Rattle.day_simulator.specs.State.{moment_of}
use Rattle.day_simulator.specs.Steps.{insert_event, sorted_events, events_by_trip}
use Rattle.timetable.proofs.Sorting.{From, Rises, with_number, stable_sort_is}

pub events_by_trip-append : (xs ys : List ℕ) → events_by_trip (xs ++ ys) ≡ events_by_trip xs ++ events_by_trip ys
events_by_trip-append [] ys = refl
events_by_trip-append (t ∷ xs) ys = ap (λ (es : List DayEvent). Arrive t ∷ Depart t ∷ es) (events_by_trip-append xs ys)

-- one more trip
pub events_by_trip-more : (n : ℕ) → events_by_trip (below (n + 1)) ≡ (events_by_trip (below n) ++ Arrive n ∷ []) ++ Depart n ∷ []
events_by_trip-more n =
    let next : n + 1 ≡ suc n = omega arith in
    ap (λ (k : ℕ). events_by_trip (below k)) next ∙ events_by_trip-append (below n) (n ∷ []) ∙ sym (append_assoc (events_by_trip (below n)) (Arrive n ∷ []) (Depart n ∷ []))

module _ (day : Day) where
  from_earlier : (m k : ℕ) (es : List DayEvent) → m ≤ k → From (moment_of day) k es → From (moment_of day) m es
  from_earlier m k [] le h = tt
  from_earlier m k (e ∷ es) le h = (omega (arith, h.0), from_earlier m k es le h.1)

  from_insert : (m : ℕ) (e : DayEvent) (es : List DayEvent) → m ≤ moment_of day e → From (moment_of day) m es → From (moment_of day) m (insert_event day e es)
  from_insert m e [] le h = (le, tt)
  from_insert m e (f ∷ fs) le h =
      cond_both (leb (moment_of day e) (moment_of day f)) (e ∷ f ∷ fs) (f ∷ insert_event day e fs) (λ l. From (moment_of day) m l)
      (λ t. (le, h)) (λ t. (h.0, from_insert m e fs le h.1))

  insert_rises : (e : DayEvent) (es : List DayEvent) → Rises (moment_of day) es → Rises (moment_of day) (insert_event day e es)
  insert_rises e [] h = (tt, tt)
  insert_rises e (f ∷ fs) h =
      cond_both (leb (moment_of day e) (moment_of day f)) (e ∷ f ∷ fs) (f ∷ insert_event day e fs) (λ l. Rises (moment_of day) l)
      (λ t. let le = leb-true (moment_of day e) (moment_of day f) t in ((le, from_earlier _ _ fs le h.0), h))
      (λ t. let lt = leb-false (moment_of day e) (moment_of day f) t in (from_insert _ e fs (omega (arith, lt)) h.0, insert_rises e fs h.1))

  sorted_rises : (es : List DayEvent) → Rises (moment_of day) (sorted_events day es)
  sorted_rises [] = tt
  sorted_rises (e ∷ es) = insert_rises e (sorted_events day es) (sorted_rises es)

  -- an event put before others of another moment
  swapped : (b c : Bool) (e f : DayEvent) (es : List DayEvent) → (b ≡ true → c ≡ true → ⊥) → cond c (f ∷ cond b (e ∷ es) es) (cond b (e ∷ es) es) ≡ cond b (e ∷ cond c (f ∷ es) es) (cond c (f ∷ es) es)
  swapped true true e f es never = absurd (never refl refl)
  swapped true false e f es never = refl
  swapped false true e f es never = refl
  swapped false false e f es never = refl

  with_number-insert : (k : ℕ) (e : DayEvent) (es : List DayEvent) → with_number (moment_of day) k (insert_event day e es) ≡ with_number (moment_of day) k (e ∷ es)
  with_number-insert k e [] = refl
  with_number-insert k e (f ∷ fs) =
      cond_both (leb (moment_of day e) (moment_of day f)) (e ∷ f ∷ fs) (f ∷ insert_event day e fs) (λ l. with_number (moment_of day) k l ≡ with_number (moment_of day) k (e ∷ f ∷ fs))
      (λ t. refl)
      (λ t.
      let lt = leb-false (moment_of day e) (moment_of day f) t in
      ap (λ (l : List DayEvent). cond (moment_of day f == k) (f ∷ l) l) (with_number-insert k e fs)
      ∙ swapped (moment_of day e == k) (moment_of day f == k) e f (with_number (moment_of day) k fs)
      (λ b c. absurd (omega (arith, lt, eqb-true (moment_of day e) k b, eqb-true (moment_of day f) k c))))

  with_number-sorted : (k : ℕ) (es : List DayEvent) → with_number (moment_of day) k (sorted_events day es) ≡ with_number (moment_of day) k es
  with_number-sorted k [] = refl
  with_number-sorted k (e ∷ es) =
      with_number-insert k e (sorted_events day es) ∙ ap (λ (l : List DayEvent). cond (moment_of day e == k) (e ∷ l) l) (with_number-sorted k es)

  -- a stable sort by the events' moments, which each call of its closure gives
  pub sort_by_moment_is : {F : Type 0} {g : Mut F (Bor DayEvent × Unit {0}) ℕ} {f : F} (es sorted : List DayEvent)
      → ((n : DayEvent → ℕ) → ComputesKey g n f → IsSortedByKey n nat_cmp sorted)
      → ((n : DayEvent → ℕ) → ComputesKey g n f → IsStableByKey n nat_cmp es sorted)
      → ((a : Bor DayEvent × Unit {0}) (r : ℕ) (f' : F) → Called g f a r f' → (r ≡ moment_of day a.0.now) × (f' ≡ f)) → sorted ≡ sorted_events day es
  sort_by_moment_is es sorted up stable each =
      stable_sort_is (moment_of day) es sorted (sorted_events day es) up stable each (sorted_rises es) (λ k. with_number-sorted k es)
