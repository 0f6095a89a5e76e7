-- The duty of a unit is what departs, of its trips, along the fixed order.
use Rattle.std.proofs.Common.{◌≡◌, ℕ, zero, suc, ◌+◌, ◌*◌, ◌<◌, ◌≤◌, List, [], ◌∷◌, ◌++◌, length, Bool, true, false}
use Rattle.std.proofs.Common.{cond, leb, refl, sym, ap, ◌∙◌, subst, arith, ◌≢◌, ⊎_elim}
use Rattle.std.specs.Prelude.{if◌then◌else◌, filter}
use Rattle.std.proofs.lemmas.Bool.{cond_both, leb-true, leb-false, cond-true, cond-false, cases_Bool, cases_eq}
use Rattle.std.proofs.lemmas.Bool.{cases_lt, false≢true}
use Rattle.std.proofs.lemmas.Bool.Decides.{nat_tests}
use Rattle.timetable.specs.Day.{Day, leaves}
use Rattle.timetable.specs.Lists.{count_of, below}
use Rattle.timetable.specs.Duties.{is_before, insert_trip, in_order}
use Rattle.day_simulator.specs.declared.events.DayEvent.{DayEvent}
use Rattle.day_simulator.specs.declared.events.DayEvent.TheVariants.{Depart, Arrive}
use Rattle.day_simulator.specs.State.{moment_of}
use Rattle.day_simulator.specs.Steps.{insert_event, sorted_events, events_by_trip, fixed_order}
use Rattle.day_simulator.specs.Orders.{departures, AllFrom, NeverFalls}
use Rattle.timetable.proofs.Ones.{one_same, one_other, count_below_out}
use Rattle.day_simulator.proofs.Order.{from_earlier, count_of-append, sorted_never_falls, departures_sorted}
use Rattle.day_simulator.proofs.Lawful.{from_departure}

-- the trips that pass a test, as they depart among these events
abbrev pub legs : (ℕ → Bool) → List DayEvent → List ℕ
legs p [] = []
legs p (Depart t ∷ es) = if p t then t ∷ legs p es else legs p es
legs p (Arrive t ∷ es) = legs p es

before_yes : (day : Day) (a b : ℕ) → leaves day a ≤ leaves day b → a < b → is_before day a b ≡ true
before_yes day a b le lt = grind (arith, nat_tests)

before_no : (day : Day) (a b : ℕ) → leaves day b < leaves day a → is_before day a b ≡ false
before_no day a b lt = grind (arith, nat_tests)

legs-insert_arrive : (day : Day) (p : ℕ → Bool) (s : ℕ) (es : List DayEvent) → legs p (insert_event day (Arrive s) es) ≡ legs p es
legs-insert_arrive day p s [] = refl
legs-insert_arrive day p s (f ∷ fs) =
    cond_both (leb (moment_of day (Arrive s)) (moment_of day f)) (Arrive s ∷ f ∷ fs) (f ∷ insert_event day (Arrive s) fs) (λ l. legs p l ≡ legs p (f ∷ fs))
    (λ c. refl) (λ c. on f (legs-insert_arrive day p s fs))
  where
    on : (f : DayEvent) → legs p (insert_event day (Arrive s) fs) ≡ legs p fs → legs p (f ∷ insert_event day (Arrive s) fs) ≡ legs p (f ∷ fs)
    on (Depart t) ih = ap (λ l. if p t then t ∷ l else l) ih
    on (Arrive t) ih = ih

legs-insert_other : (day : Day) (p : ℕ → Bool) (s : ℕ) (es : List DayEvent) → p s ≡ false → legs p (insert_event day (Depart s) es) ≡ legs p es
legs-insert_other day p s [] no' = cond-false (p s) (s ∷ []) [] no'
legs-insert_other day p s (f ∷ fs) no' =
    cond_both (leb (moment_of day (Depart s)) (moment_of day f)) (Depart s ∷ f ∷ fs) (f ∷ insert_event day (Depart s) fs) (λ l. legs p l ≡ legs p (f ∷ fs))
    (λ c. cond-false (p s) (s ∷ legs p (f ∷ fs)) (legs p (f ∷ fs)) no') (λ c. on f (legs-insert_other day p s fs no'))
  where
    on : (f : DayEvent) → legs p (insert_event day (Depart s) fs) ≡ legs p fs → legs p (f ∷ insert_event day (Depart s) fs) ≡ legs p (f ∷ fs)
    on (Depart t) ih = ap (λ l. if p t then t ∷ l else l) ih
    on (Arrive t) ih = ih

-- every trip that departs among these events has a number above s
IsAbove : ℕ → List DayEvent → Type 0
IsAbove s es = (t : ℕ) → 1 ≤ departures t es → s < t

above_here : (s t : ℕ) (es : List DayEvent) → IsAbove s (Depart t ∷ es) → s < t
unfolding IsAbove
above_here s t es h = let o = one_same t t refl in h t (omega arith)

above_tail : (s : ℕ) (e : DayEvent) (es : List DayEvent) → IsAbove s (e ∷ es) → IsAbove s es
unfolding IsAbove
above_tail s (Depart t) es h = λ r c. h r (omega arith)
above_tail s (Arrive t) es h = h

-- where all that departs leaves later, the trip comes first
legs_first : (day : Day) (p : ℕ → Bool) (s : ℕ) (es : List DayEvent) → AllFrom day (2 * leaves day s + 1) es → IsAbove s es → insert_trip day s (legs p es) ≡ s ∷ legs p es
unfolding moment_of
legs_first day p s [] h above = refl
legs_first day p s (Arrive t ∷ es) h above = legs_first day p s es h.1 (above_tail s (Arrive t) es above)
legs_first day p s (Depart t ∷ es) h above =
    cond_both (p t) (t ∷ legs p es) (legs p es) (λ l. insert_trip day s l ≡ s ∷ l)
    (λ c. cond-true (is_before day s t) (s ∷ t ∷ legs p es) (t ∷ insert_trip day s (legs p es)) (before_yes day s t (let le : 2 * leaves day s + 1 ≤ 2 * leaves day t + 1 = h.0 in omega arith) (above_here s t es above)))
    (λ c. legs_first day p s es h.1 (above_tail s (Depart t) es above))

legs-insert_depart : (day : Day) (p : ℕ → Bool) (s : ℕ) (es : List DayEvent) → p s ≡ true → NeverFalls day es → IsAbove s es → legs p (insert_event day (Depart s) es) ≡ insert_trip day s (legs p es)
unfolding moment_of
legs-insert_depart day p s [] is sorted above = cond-true (p s) (s ∷ []) [] is
legs-insert_depart day p s (f ∷ fs) is sorted above =
    cond_both (leb (moment_of day (Depart s)) (moment_of day f)) (Depart s ∷ f ∷ fs) (f ∷ insert_event day (Depart s) fs) (λ l. legs p l ≡ insert_trip day s (legs p (f ∷ fs)))
    (λ c. let le = leb-true (moment_of day (Depart s)) (moment_of day f) c in
    cond-true (p s) (s ∷ legs p (f ∷ fs)) (legs p (f ∷ fs)) is
    ∙ sym (legs_first day p s (f ∷ fs) (le, from_earlier day _ _ fs le sorted.0) above))
    (λ c. on f (leb-false (moment_of day (Depart s)) (moment_of day f) c) (legs-insert_depart day p s fs is sorted.1 (above_tail s f fs above)))
  where
    split : (b : Bool) (t : ℕ) (ins : List ℕ) → ins ≡ insert_trip day s (legs p fs) → is_before day s t ≡ false → cond b (t ∷ ins) ins ≡ insert_trip day s (cond b (t ∷ legs p fs) (legs p fs))
    split true t ins ih later = ap (λ l. t ∷ l) ih ∙ sym (cond-false (is_before day s t) (s ∷ t ∷ legs p fs) (t ∷ insert_trip day s (legs p fs)) later)
    split false t ins ih later = ih

    on : (f : DayEvent) → moment_of day f < moment_of day (Depart s) → legs p (insert_event day (Depart s) fs) ≡ insert_trip day s (legs p fs) → legs p (f ∷ insert_event day (Depart s) fs) ≡ insert_trip day s (legs p (f ∷ fs))
    on (Depart t) lt ih =
        let earlier : 2 * leaves day t + 1 < 2 * leaves day s + 1 = lt in
        split (p t) t (legs p (insert_event day (Depart s) fs)) ih (before_no day s t (omega arith))
    on (Arrive t) lt ih = ih

-- each trip has a smaller number than the trips after it
abbrev Ascends : List ℕ → Type 0
Ascends [] = Unit {0}
Ascends (s ∷ ts) = ((t : ℕ) → 1 ≤ count_of t ts → s < t) × Ascends ts

ascends_push : (ts : List ℕ) (n : ℕ) → ((t : ℕ) → 1 ≤ count_of t ts → t < n) → Ascends ts → Ascends (ts ++ n ∷ [])
ascends_push [] n under h = ((λ t c. absurd (omega arith)), tt)
ascends_push (s ∷ ts) n under h = (above, ascends_push ts n (λ t c. under t (omega arith)) h.1)
  where
    above : (t : ℕ) → 1 ≤ count_of t (ts ++ n ∷ []) → s < t
    above t c =
        let a = count_of-append t ts (n ∷ []) in
        let here = one_same s s refl in
        let first = under s (omega arith) in
        ⊎_elim (λ (e : n ≡ t). omega arith) (λ (ne : n ≢ t). let o = one_other n t ne in h.0 t (omega arith)) (cases_eq n t)

ascends_below : (n : ℕ) → Ascends (below n)
ascends_below zero = tt
ascends_below (suc n) =
    ascends_push (below n) n
    (λ t c. ⊎_elim (λ (lt : t < n). lt) (λ (ge : n ≤ t). let z = count_below_out t n ge in absurd (omega arith)) (cases_lt t n))
    (ascends_below n)

legs_sorted : (day : Day) (p : ℕ → Bool) (ts : List ℕ) → Ascends ts → legs p (sorted_events day (events_by_trip ts)) ≡ in_order day (filter p ts)
unfolding IsAbove
legs_sorted day p [] h = refl
legs_sorted day p (s ∷ ts) h =
    let ih = legs_sorted day p ts h.1 in
    legs-insert_arrive day p s (insert_event day (Depart s) (sorted_events day (events_by_trip ts)))
    ∙ ⊎_elim (kept ih) (dropped ih) (cases_Bool (p s))
  where
    kept : legs p (sorted_events day (events_by_trip ts)) ≡ in_order day (filter p ts) → p s ≡ true → legs p (insert_event day (Depart s) (sorted_events day (events_by_trip ts))) ≡ in_order day (filter p (s ∷ ts))
    kept ih is =
        legs-insert_depart day p s (sorted_events day (events_by_trip ts)) is (sorted_never_falls day (events_by_trip ts))
        (λ t c. let d = departures_sorted day t ts in h.0 t (omega arith))
        ∙ ap (insert_trip day s) ih
        ∙ ap (in_order day) (sym (cond-true (p s) (s ∷ filter p ts) (filter p ts) is))

    dropped : legs p (sorted_events day (events_by_trip ts)) ≡ in_order day (filter p ts) → p s ≡ false → legs p (insert_event day (Depart s) (sorted_events day (events_by_trip ts))) ≡ in_order day (filter p (s ∷ ts))
    dropped ih is =
        legs-insert_other day p s (sorted_events day (events_by_trip ts)) is
        ∙ ih
        ∙ ap (in_order day) (sym (cond-false (p s) (s ∷ filter p ts) (filter p ts) is))

pub legs_fixed : (day : Day) (p : ℕ → Bool) → legs p (fixed_order day) ≡ in_order day (filter p (below (length day.trips)))
unfolding fixed_order
legs_fixed day p = legs_sorted day p (below (length day.trips)) (ascends_below (length day.trips))

-- the first trip of a unit passes the test, and no trip that passes it leaves sooner
pub leads : (day : Day) (p : ℕ → Bool) (es : List DayEvent) (t : ℕ) (ts : List ℕ) → NeverFalls day es → legs p es ≡ t ∷ ts → (p t ≡ true) × ((a : ℕ) → p a ≡ true → 1 ≤ departures a es → leaves day t ≤ leaves day a)
unfolding moment_of
leads day p [] t ts sorted e = absurd (cc)
leads day p (Arrive s ∷ es) t ts sorted e = leads day p es t ts sorted.1 e
leads day p (Depart s ∷ es) t ts sorted e =
    ⊎_elim
    (λ (is : p s ≡ true).
    let first : s ∷ legs p es ≡ t ∷ ts = sym (cond-true (p s) (s ∷ legs p es) (legs p es) is) ∙ e in
    let same : s ≡ t = cc in
    subst (λ x. (p x ≡ true) × ((a : ℕ) → p a ≡ true → 1 ≤ departures a (Depart s ∷ es) → leaves day x ≤ leaves day a)) same (is, later))
    (λ (isnt : p s ≡ false).
    let first : legs p es ≡ t ∷ ts = sym (cond-false (p s) (s ∷ legs p es) (legs p es) isnt) ∙ e in
    let rest = leads day p es t ts sorted.1 first in (
      rest.0,
      λ a yes' c.
          let ne : s ≢ a = λ e. false≢true (sym isnt ∙ ap p e ∙ yes') in
          let o = one_other s a ne in
          rest.1 a yes' (omega arith),
    ))
    (cases_Bool (p s))
  where
    later : (a : ℕ) → p a ≡ true → 1 ≤ departures a (Depart s ∷ es) → leaves day s ≤ leaves day a
    later a yes' c = ⊎_elim (λ (e : s ≡ a). subst (λ x. leaves day s ≤ leaves day x) e (omega arith))
        (λ (ne : s ≢ a).
        let o = one_other s a ne in
        let late = from_departure day (2 * leaves day s + 1) a es sorted.0 (omega arith) in
        omega arith) (cases_eq s a)
