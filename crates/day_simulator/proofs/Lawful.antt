-- The fixed order, and what is left of it at any time: no moment falls, and each trip departs before it arrives.
use Rattle.std.proofs.Common.{◌≡◌, ℕ, ◌+◌, ◌*◌, ◌<◌, ◌≤◌, List, [], ◌∷◌, length, refl, ◌∙◌, subst, arith, ◌≢◌, ⊎_elim}
use Rattle.std.proofs.lemmas.Bool.{cases_eq, cases_lt}
use Rattle.timetable.specs.Day.{Day, leaves, arrives}
use Rattle.timetable.specs.Lists.{below}
use Rattle.timetable.specs.Accepted.{IsDay}
use Rattle.day_simulator.specs.declared.events.DayEvent.{DayEvent}
use Rattle.day_simulator.specs.declared.events.DayEvent.TheVariants.{Depart, Arrive}
use Rattle.day_simulator.specs.State.{moment_of}
use Rattle.day_simulator.specs.Steps.{events_by_trip, fixed_order}
use Rattle.day_simulator.specs.Orders.{IsOrder, departures, arrivals, AllFrom, NeverFalls}
use Rattle.timetable.proofs.Ones.{one_same, one_other, count_below_in, count_below_out}
use Rattle.day_simulator.proofs.Order.{sorted_never_falls, departures_sorted, arrivals_sorted}

pub record Lawful (day : Day) (es : List DayEvent) : Type 0 where
  pub never_falls : NeverFalls day es
  pub departs_too : (t : ℕ) → departures t es ≤ arrivals t es
  pub once : (t : ℕ) → arrivals t es ≤ 1
  pub in_range : (t : ℕ) → length day.trips ≤ t → arrivals t es ≡ 0
  pub departed : (t : ℕ) → t < length day.trips → departures t es ≡ 0 → AllFrom day (2 * leaves day t + 1) es

pub from_departure : (day : Day) (m t : ℕ) (es : List DayEvent) → AllFrom day m es → 1 ≤ departures t es → m ≤ 2 * leaves day t + 1
unfolding moment_of
from_departure day m t [] h c = absurd (omega arith)
from_departure day m t (Arrive s ∷ es) h c = from_departure day m t es h.1 c
from_departure day m t (Depart s ∷ es) h c =
    ⊎_elim (λ (e : s ≡ t). let le : m ≤ 2 * leaves day s + 1 = h.0 in subst (λ x. m ≤ 2 * leaves day x + 1) e le)
    (λ (ne : s ≢ t). let o = one_other s t ne in from_departure day m t es h.1 (omega arith)) (cases_eq s t)

pub from_arrival : (day : Day) (m t : ℕ) (es : List DayEvent) → AllFrom day m es → 1 ≤ arrivals t es → m ≤ 2 * arrives day t
unfolding moment_of
from_arrival day m t [] h c = absurd (omega arith)
from_arrival day m t (Depart s ∷ es) h c = from_arrival day m t es h.1 c
from_arrival day m t (Arrive s ∷ es) h c =
    ⊎_elim (λ (e : s ≡ t). let le : m ≤ 2 * arrives day s = h.0 in subst (λ x. m ≤ 2 * arrives day x) e le)
    (λ (ne : s ≢ t). let o = one_other s t ne in from_arrival day m t es h.1 (omega arith)) (cases_eq s t)

-- the fixed order is an order of the day
pub fixed_is_order : (day : Day) → IsOrder day (fixed_order day)
unfolding fixed_order
fixed_is_order day = record {
  departs_once = λ t lt. departures_sorted day t (below (length day.trips)) ∙ count_below_in t (length day.trips) lt;
  arrives_once = λ t lt. arrivals_sorted day t (below (length day.trips)) ∙ count_below_in t (length day.trips) lt;
  none_departs_beyond = λ t ge. departures_sorted day t (below (length day.trips)) ∙ count_below_out t (length day.trips) ge;
  none_arrives_beyond = λ t ge. arrivals_sorted day t (below (length day.trips)) ∙ count_below_out t (length day.trips) ge;
  never_falls = sorted_never_falls day (events_by_trip (below (length day.trips)));
}

pub lawful_order : (day : Day) (es : List DayEvent) → IsOrder day es → Lawful day es
lawful_order day es order = record {
  never_falls = order.never_falls;
  departs_too = λ t.
      ⊎_elim (λ (lt : t < length day.trips). let d = order.departs_once t lt in let a = order.arrives_once t lt in omega arith)
      (λ (ge : length day.trips ≤ t). let d = order.none_departs_beyond t ge in omega arith) (cases_lt t (length day.trips));
  once = λ t.
      ⊎_elim (λ (lt : t < length day.trips). let a = order.arrives_once t lt in omega arith)
      (λ (ge : length day.trips ≤ t). let a = order.none_arrives_beyond t ge in omega arith) (cases_lt t (length day.trips));
  in_range = order.none_arrives_beyond;
  departed = λ t lt gone. let d = order.departs_once t lt in absurd (omega arith);
}

-- what is left when the first event is made
pub record Left (day : Day) (t : ℕ) (es : List DayEvent) (arrives_yet : ℕ) : Type 0 where
  pub departs : departures t es ≡ 0
  pub arrives : arrivals t es ≡ arrives_yet
  pub trip : t < length day.trips

trip_of : (day : Day) (t : ℕ) (es : List DayEvent) → Lawful day es → 1 ≤ arrivals t es → t < length day.trips
trip_of day t es h c =
    ⊎_elim (λ (lt : t < length day.trips). lt) (λ (ge : length day.trips ≤ t). let z = h.in_range t ge in absurd (omega arith)) (cases_lt t (length day.trips))

pub left_depart : (day : Day) (t : ℕ) (es : List DayEvent) → Lawful day (Depart t ∷ es) → Left day t es 1
left_depart day t es h =
    let o = one_same t t refl in
    let d = h.departs_too t in
    let a = h.once t in
    record { departs = omega arith; arrives = omega arith; trip = trip_of day t (Depart t ∷ es) h (omega arith) }

pub left_arrive : (day : Day) (t : ℕ) (es : List DayEvent) → IsDay day → Lawful day (Arrive t ∷ es) → Left day t es 0
unfolding moment_of
left_arrive day t es is_day h =
    let o = one_same t t refl in
    let d = h.departs_too t in
    let a = h.once t in
    let trip = trip_of day t (Arrive t ∷ es) h (omega arith) in
    let time = is_day.timetable.time t trip in
    let gone : departures t es ≡ 0 =
    ⊎_elim (λ (lt : 0 < departures t es). let late = from_departure day (2 * arrives day t) t es h.never_falls.0 (omega arith) in absurd (omega arith))
    (λ (ge : departures t es ≤ 0). omega arith) (cases_lt 0 (departures t es)) in
    record { departs = gone; arrives = omega arith; trip = trip }

pub lawful_tail : (day : Day) (e : DayEvent) (es : List DayEvent) → IsDay day → Lawful day (e ∷ es) → Lawful day es
unfolding moment_of
lawful_tail day (Depart t) es is_day h = record {
  never_falls = h.never_falls.1;
  departs_too = λ s. let d = h.departs_too s in omega arith;
  once = h.once;
  in_range = h.in_range;
  departed = λ s lt gone. ⊎_elim (λ (e : t ≡ s). subst (λ x. AllFrom day (2 * leaves day x + 1) es) e h.never_falls.0)
      (λ (ne : t ≢ s). let o = one_other t s ne in (h.departed s lt (omega arith)).1) (cases_eq t s);
}
lawful_tail day (Arrive t) es is_day h = record {
  never_falls = h.never_falls.1;
  departs_too = λ s. ⊎_elim (λ (e : t ≡ s). let g = (left_arrive day t es is_day h).departs in let g' = subst (λ x. departures x es ≡ 0) e g in omega arith)
      (λ (ne : t ≢ s). let d = h.departs_too s in let o = one_other t s ne in omega arith) (cases_eq t s);
  once = λ s. let a = h.once s in omega arith;
  in_range = λ s ge. let a = h.in_range s ge in omega arith;
  departed = λ s lt gone. (h.departed s lt gone).1;
}

-- a trip that arrives no later than another leaves has arrived when the other departs
pub arrived_before : (day : Day) (a t : ℕ) (es : List DayEvent) → arrives day a ≤ leaves day t → Lawful day (Depart t ∷ es) → arrivals a es ≡ 0
unfolding moment_of
arrived_before day a t es time h =
    ⊎_elim (λ (lt : 0 < arrivals a es). let late = from_arrival day (2 * leaves day t + 1) a es h.never_falls.0 (omega arith) in absurd (omega arith))
    (λ (ge : arrivals a es ≤ 0). omega arith) (cases_lt 0 (arrivals a es))

-- a trip that leaves no sooner than another arrives has not departed when the other arrives
pub departs_after : (day : Day) (t b : ℕ) (es : List DayEvent) → b < length day.trips → arrives day t ≤ leaves day b → Lawful day (Arrive t ∷ es) → 1 ≤ departures b es
unfolding moment_of
departs_after day t b es lt time h =
    ⊎_elim (λ (more : 0 < departures b es). omega arith)
    (λ (gone : departures b es ≤ 0).
    let early = (h.departed b lt (omega arith)).0 in
    let early' : 2 * leaves day b + 1 ≤ 2 * arrives day t = early in
    absurd (omega arith)) (cases_lt 0 (departures b es))
