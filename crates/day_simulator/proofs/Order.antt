-- How often a trip departs and arrives among events, and events whose moments never fall.
use Rattle.std.proofs.Common.{◌≡◌, ℕ, ◌+◌, ◌≤◌, List, [], ◌∷◌, ◌++◌, leb, refl, ap, ◌∙◌, arith}
use Rattle.std.specs.Prelude.{if◌then◌else◌, ◌==◌}
use Rattle.std.proofs.lemmas.Bool.{cond_both, leb-true, leb-false}
use Rattle.timetable.specs.Day.{Day}
use Rattle.timetable.specs.Lists.{count_of}
use Rattle.day_simulator.specs.declared.events.DayEvent.{DayEvent}
use Rattle.day_simulator.specs.declared.events.DayEvent.TheVariants.{Depart, Arrive}
use Rattle.day_simulator.specs.State.{moment_of}
use Rattle.day_simulator.specs.Orders.{departures, arrivals, AllFrom, NeverFalls}
use Rattle.day_simulator.specs.Steps.{insert_event, sorted_events, events_by_trip}

pub from_earlier : (day : Day) (m n : ℕ) (es : List DayEvent) → m ≤ n → AllFrom day n es → AllFrom day m es
from_earlier day m n [] le h = tt
from_earlier day m n (e ∷ es) le h = (omega (arith, h.0), from_earlier day m n es le h.1)

from_insert : (day : Day) (m : ℕ) (e : DayEvent) (es : List DayEvent) → m ≤ moment_of day e → AllFrom day m es → AllFrom day m (insert_event day e es)
from_insert day m e [] le h = (le, tt)
from_insert day m e (f ∷ fs) le h =
    cond_both (leb (moment_of day e) (moment_of day f)) (e ∷ f ∷ fs) (f ∷ insert_event day e fs) (λ l. AllFrom day m l)
    (λ t. (le, h)) (λ t. (h.0, from_insert day m e fs le h.1))

insert_never_falls : (day : Day) (e : DayEvent) (es : List DayEvent) → NeverFalls day es → NeverFalls day (insert_event day e es)
insert_never_falls day e [] h = (tt, tt)
insert_never_falls day e (f ∷ fs) h =
    cond_both (leb (moment_of day e) (moment_of day f)) (e ∷ f ∷ fs) (f ∷ insert_event day e fs) (NeverFalls day)
    (λ t. let le = leb-true (moment_of day e) (moment_of day f) t in ((le, from_earlier day _ _ fs le h.0), h))
    (λ t. let lt = leb-false (moment_of day e) (moment_of day f) t in (from_insert day _ e fs (omega (arith, lt)) h.0, insert_never_falls day e fs h.1))

pub sorted_never_falls : (day : Day) (es : List DayEvent) → NeverFalls day (sorted_events day es)
sorted_never_falls day [] = tt
sorted_never_falls day (e ∷ es) = insert_never_falls day e (sorted_events day es) (sorted_never_falls day es)

departures-insert : (day : Day) (t : ℕ) (e : DayEvent) (es : List DayEvent) → departures t (insert_event day e es) ≡ departures t (e ∷ es)
departures-insert day t e [] = refl
departures-insert day t e (f ∷ fs) =
    cond_both (leb (moment_of day e) (moment_of day f)) (e ∷ f ∷ fs) (f ∷ insert_event day e fs) (λ l. departures t l ≡ departures t (e ∷ f ∷ fs))
    (λ c. refl) (λ c. swap e f (insert_event day e fs) (departures-insert day t e fs))
  where
    swap : (e f : DayEvent) (gs : List DayEvent) → departures t gs ≡ departures t (e ∷ fs) → departures t (f ∷ gs) ≡ departures t (e ∷ f ∷ fs)
    swap (Depart a) (Depart b) gs h = omega arith
    swap (Depart a) (Arrive b) gs h = h
    swap (Arrive a) (Depart b) gs h = ap (λ n. (if b == t then 1 else 0) + n) h
    swap (Arrive a) (Arrive b) gs h = h

arrivals-insert : (day : Day) (t : ℕ) (e : DayEvent) (es : List DayEvent) → arrivals t (insert_event day e es) ≡ arrivals t (e ∷ es)
arrivals-insert day t e [] = refl
arrivals-insert day t e (f ∷ fs) =
    cond_both (leb (moment_of day e) (moment_of day f)) (e ∷ f ∷ fs) (f ∷ insert_event day e fs) (λ l. arrivals t l ≡ arrivals t (e ∷ f ∷ fs))
    (λ c. refl) (λ c. swap e f (insert_event day e fs) (arrivals-insert day t e fs))
  where
    swap : (e f : DayEvent) (gs : List DayEvent) → arrivals t gs ≡ arrivals t (e ∷ fs) → arrivals t (f ∷ gs) ≡ arrivals t (e ∷ f ∷ fs)
    swap (Arrive a) (Arrive b) gs h = omega arith
    swap (Arrive a) (Depart b) gs h = h
    swap (Depart a) (Arrive b) gs h = ap (λ n. (if b == t then 1 else 0) + n) h
    swap (Depart a) (Depart b) gs h = h

-- each trip of a list departs and arrives once for each time that it is in the list
pub departures_sorted : (day : Day) (t : ℕ) (ts : List ℕ) → departures t (sorted_events day (events_by_trip ts)) ≡ count_of t ts
departures_sorted day t [] = refl
departures_sorted day t (s ∷ ts) =
    departures-insert day t (Arrive s) (insert_event day (Depart s) (sorted_events day (events_by_trip ts)))
    ∙ departures-insert day t (Depart s) (sorted_events day (events_by_trip ts))
    ∙ ap (λ n. (if s == t then 1 else 0) + n) (departures_sorted day t ts)

pub arrivals_sorted : (day : Day) (t : ℕ) (ts : List ℕ) → arrivals t (sorted_events day (events_by_trip ts)) ≡ count_of t ts
arrivals_sorted day t [] = refl
arrivals_sorted day t (s ∷ ts) =
    arrivals-insert day t (Arrive s) (insert_event day (Depart s) (sorted_events day (events_by_trip ts)))
    ∙ ap (λ n. (if s == t then 1 else 0) + n) (arrivals-insert day t (Depart s) (sorted_events day (events_by_trip ts)) ∙ arrivals_sorted day t ts)

pub count_of-append : (t : ℕ) (xs ys : List ℕ) → count_of t (xs ++ ys) ≡ count_of t xs + count_of t ys
count_of-append t [] ys = omega arith
count_of-append t (x ∷ xs) ys = let ih = count_of-append t xs ys in omega arith
