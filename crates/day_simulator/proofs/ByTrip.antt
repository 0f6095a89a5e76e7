-- In the fixed order the trips of one moment rise.
use Rattle.std.proofs.Common.{◌≡◌, ℕ, ◌<◌, List, [], ◌∷◌, length, leb, arith}
use Rattle.std.proofs.lemmas.Bool.{cond_both, leb-false}
use Rattle.timetable.specs.Day.{Day}
use Rattle.timetable.specs.Lists.{below}
use Rattle.timetable.proofs.Numbered.{AllLater, Rise, below_rises}
use Rattle.day_simulator.specs.declared.events.DayEvent.{DayEvent}
use Rattle.day_simulator.specs.declared.events.DayEvent.TheVariants.{Depart, Arrive}
use Rattle.day_simulator.specs.Laws.{IsInFixedOrder}
use Rattle.day_simulator.specs.Orders.{LaterTrips, RisesByTrip}
use Rattle.day_simulator.specs.State.{moment_of, trip_of}
use Rattle.day_simulator.specs.Steps.{insert_event, sorted_events, events_by_trip, fixed_order}
use Rattle.day_simulator.proofs.Lawful.{fixed_is_order}

module _ (day : Day) where
  later_insert : (e f : DayEvent) (es : List DayEvent) → (moment_of day f ≡ moment_of day e → trip_of e < trip_of f) → LaterTrips day e es → LaterTrips day e (insert_event day f es)
  later_insert e f [] first h = (first, tt)
  later_insert e f (g ∷ gs) first h =
      cond_both (leb (moment_of day f) (moment_of day g)) (f ∷ g ∷ gs) (g ∷ insert_event day f gs) (λ l. LaterTrips day e l)
      (λ t. (first, h)) (λ t. (h.0, later_insert e f gs first h.1))

  insert_rises : (e : DayEvent) (es : List DayEvent) → LaterTrips day e es → RisesByTrip day es → RisesByTrip day (insert_event day e es)
  insert_rises e [] later h = (tt, tt)
  insert_rises e (f ∷ fs) later h =
      cond_both (leb (moment_of day e) (moment_of day f)) (e ∷ f ∷ fs) (f ∷ insert_event day e fs) (RisesByTrip day)
      (λ t. (later, h))
      (λ t. let lt = leb-false (moment_of day e) (moment_of day f) t in (later_insert f e fs (λ same. absurd (omega (arith, lt, same))) h.0, insert_rises e fs later.1 h.1))

  later_sorted : (e : DayEvent) (es : List DayEvent) → LaterTrips day e es → LaterTrips day e (sorted_events day es)
  later_sorted e [] h = tt
  later_sorted e (f ∷ fs) h = later_insert e f (sorted_events day fs) h.0 (later_sorted e fs h.1)

  sorted_rises : (es : List DayEvent) → RisesByTrip day es → RisesByTrip day (sorted_events day es)
  sorted_rises [] h = tt
  sorted_rises (e ∷ es) h = insert_rises e (sorted_events day es) (later_sorted e es h.0) (sorted_rises es h.1)

  later_events : (e : DayEvent) (ts : List ℕ) → AllLater (trip_of e) ts → LaterTrips day e (events_by_trip ts)
  later_events e [] h = tt
  later_events e (t ∷ ts) h = ((λ same. h.0), ((λ same. h.0), later_events e ts h.1))

  -- an arrival and a departure never come at one moment
  pub never_together : (s t : ℕ) → moment_of day (Depart s) ≡ moment_of day (Arrive t) → t < s
  unfolding moment_of
  never_together s t same = absurd (omega (arith, same))

  events_rise : (ts : List ℕ) → Rise ts → RisesByTrip day (events_by_trip ts)
  events_rise [] h = tt
  events_rise (t ∷ ts) h = ((never_together t t, later_events (Arrive t) ts h.0), (later_events (Depart t) ts h.0, events_rise ts h.1))

pub in_fixed_order : IsInFixedOrder
unfolding fixed_order
in_fixed_order day = (fixed_is_order day, sorted_rises day (events_by_trip (below (length day.trips))) (events_rise day (below (length day.trips)) (below_rises (length day.trips))))
