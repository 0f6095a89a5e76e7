-- The stages of trips along an order of the day: whatever the plan is, each event comes in its turn.
use Rattle.std.proofs.Common.{◌≡◌, ℕ, zero, suc, ◌<◌, ◌≤◌, List, [], ◌∷◌, length, map, true, refl, sym, ap, ◌∙◌, subst}
use Rattle.std.proofs.Common.{arith, ◌≢◌, ⊎_elim}
use Rattle.std.specs.Prelude.{slice_get, slice_set, unwrap_or}
use Rattle.std.specs.List.{list_all}
use Rattle.std.proofs.lemmas.Bool.{cases_eq, cases_lt, le-leb, and_from}
use Rattle.std.proofs.lemmas.List.{length-set, length-map}
use Rattle.timetable.specs.Day.{Day, leaves, arrives}
use Rattle.timetable.specs.Lists.{count_of}
use Rattle.timetable.specs.Accepted.{IsDay}
use Rattle.rules.specs.declared.records.Trip.{Trip}
use Rattle.timetable.specs.Links.{trips_into}
use Rattle.day_simulator.specs.declared.events.DayEvent.{DayEvent}
use Rattle.day_simulator.specs.declared.events.DayEvent.TheVariants.{Depart, Arrive}
use Rattle.day_simulator.specs.declared.events.Stage.{Stage}
use Rattle.day_simulator.specs.declared.events.Stage.TheVariants as stage
use Rattle.day_simulator.specs.State.{State, first_state, stage_of, is_waiting, is_under_way, has_arrived, moment_of}
use Rattle.day_simulator.specs.Steps.{is_now, after}
use Rattle.day_simulator.specs.Orders.{IsOrder, departures, arrivals, AllFrom}
use Rattle.timetable.proofs.Ones.{one_same, one_other}
use Rattle.day_simulator.proofs.Lawful.{Lawful, left_depart, left_arrive, lawful_tail, lawful_order, arrived_before}
use Rattle.day_simulator.proofs.Places.{stage_same, stage_other}

-- these events are left of an order of the day, and each trip has come as far as they say
pub record Timely (day : Day) (state : State) (es : List DayEvent) : Type 0 where
  pub lawful : Lawful day es
  pub moment : AllFrom day state.moment es
  pub stages : length state.stages ≡ length day.trips
  pub waiting : (t : ℕ) → 1 ≤ departures t es → stage_of state.stages t ≡ stage.Waiting
  pub under_way : (t : ℕ) → departures t es ≡ 0 → 1 ≤ arrivals t es → stage_of state.stages t ≡ stage.UnderWay
  pub arrived : (t : ℕ) → arrivals t es ≡ 0 → stage_of state.stages t ≡ stage.Arrived

-- where these trips have all arrived, the test of all passes
pub all_arrived : (stages : List Stage) (ts : List ℕ) → ((a : ℕ) → 1 ≤ count_of a ts → stage_of stages a ≡ stage.Arrived) → list_all (λ a. has_arrived (stage_of stages a)) ts ≡ true
all_arrived stages [] h = refl
all_arrived stages (a ∷ ts) h =
    let o = one_same a a refl in
    and_from (has_arrived (stage_of stages a)) (list_all (λ a. has_arrived (stage_of stages a)) ts) (ap has_arrived (h a (omega arith))) (all_arrived stages ts (λ x c. h x (omega arith)))

-- each trip into another arrives no later than the other leaves
abbrev pub ArriveInTime : Day → Type 0
ArriveInTime day = (a b : ℕ) → 1 ≤ count_of a (trips_into day b) → arrives day a ≤ leaves day b

module _ (day : Day) (is_day : IsDay day) where
  pub timely_now_depart : ArriveInTime day → (state : State) (t : ℕ) (es : List DayEvent) → Timely day state (Depart t ∷ es) → is_now day state (Depart t) ≡ true
  unfolding is_now
  timely_now_depart before state t es g =
      let o = one_same t t refl in
      and_from _ _
      (and_from _ _ (le-leb state.moment (moment_of day (Depart t)) g.moment.0) (ap is_waiting (g.waiting t (omega arith))))
      (all_arrived state.stages (trips_into day t) (λ a c. g.arrived a (arrived_before day a t es (before a t c) g.lawful)))

  pub timely_now_arrive : (state : State) (t : ℕ) (es : List DayEvent) → Timely day state (Arrive t ∷ es) → is_now day state (Arrive t) ≡ true
  unfolding is_now
  timely_now_arrive state t es g =
      let o = one_same t t refl in
      and_from _ _ (le-leb state.moment (moment_of day (Arrive t)) g.moment.0) (ap is_under_way (g.under_way t (left_arrive day t es is_day g.lawful).departs (omega arith)))

  pub timely_depart : (plan : List (List ℕ)) (state : State) (t : ℕ) (es : List DayEvent) → Timely day state (Depart t ∷ es) → Timely day (after day plan state (Depart t)) es
  unfolding after
  timely_depart plan state t es g =
      let left = left_depart day t es g.lawful in
      let range : t < length state.stages = (let trip = left.trip in let same = g.stages in omega arith) in
      record {
        lawful = lawful_tail day (Depart t) es is_day g.lawful;
        moment = g.lawful.never_falls.0;
        stages = length-set state.stages t stage.UnderWay ∙ g.stages;
        waiting = λ s c.
            let ne : s ≢ t = λ e. (let c' = subst (λ x. 1 ≤ departures x es) e c in let none = left.departs in absurd (omega arith)) in
            stage_other state.stages t s stage.UnderWay ne ∙ g.waiting s (omega arith);
        under_way = λ s d a. ⊎_elim (λ (e : t ≡ s). subst (λ x. stage_of (slice_set state.stages t stage.UnderWay) x ≡ stage.UnderWay) e (stage_same state.stages t stage.UnderWay range))
            (λ (ne : t ≢ s). let o = one_other t s ne in stage_other state.stages t s stage.UnderWay (λ e. ne (sym e)) ∙ g.under_way s (omega arith) a) (cases_eq t s);
        arrived = λ s z.
            let ne : s ≢ t = λ e. (let z' = subst (λ x. arrivals x es ≡ 0) e z in let yet = left.arrives in absurd (omega arith)) in
            stage_other state.stages t s stage.UnderWay ne ∙ g.arrived s z;
      }

  pub timely_arrive : (plan : List (List ℕ)) (state : State) (t : ℕ) (es : List DayEvent) → Timely day state (Arrive t ∷ es) → Timely day (after day plan state (Arrive t)) es
  unfolding after
  timely_arrive plan state t es g =
      let left = left_arrive day t es is_day g.lawful in
      let range : t < length state.stages = (let trip = left.trip in let same = g.stages in omega arith) in
      let here = one_same t t refl in
      record {
        lawful = lawful_tail day (Arrive t) es is_day g.lawful;
        moment = g.lawful.never_falls.0;
        stages = length-set state.stages t stage.Arrived ∙ g.stages;
        waiting = λ s c.
            let ne : s ≢ t = λ e. (let c' = subst (λ x. 1 ≤ departures x es) e c in let none = left.departs in absurd (omega arith)) in
            stage_other state.stages t s stage.Arrived ne ∙ g.waiting s c;
        under_way = λ s d a.
            let ne : s ≢ t = λ e. (let a' = subst (λ x. 1 ≤ arrivals x es) e a in let none = left.arrives in absurd (omega arith)) in
            stage_other state.stages t s stage.Arrived ne ∙ g.under_way s d (omega arith);
        arrived = λ s z. ⊎_elim (λ (e : t ≡ s). subst (λ x. stage_of (slice_set state.stages t stage.Arrived) x ≡ stage.Arrived) e (stage_same state.stages t stage.Arrived range))
            (λ (ne : t ≢ s). let o = one_other t s ne in stage_other state.stages t s stage.Arrived (λ e. ne (sym e)) ∙ g.arrived s (omega arith)) (cases_eq t s);
      }

waits : (trips : List Trip) (t : ℕ) → t < length trips → unwrap_or (slice_get (map (λ trip. stage.Waiting) trips) t) stage.Arrived ≡ stage.Waiting
waits [] t lt = absurd (omega arith)
waits (x ∷ trips) zero lt = refl
waits (x ∷ trips) (suc t) lt = waits trips t (omega arith)

gone_already : (trips : List Trip) (t : ℕ) → length trips ≤ t → unwrap_or (slice_get (map (λ trip. stage.Waiting) trips) t) stage.Arrived ≡ stage.Arrived
gone_already [] t lt = refl
gone_already (x ∷ trips) zero lt = absurd (omega arith)
gone_already (x ∷ trips) (suc t) lt = gone_already trips t (omega arith)

start_waits : (day : Day) (t : ℕ) → t < length day.trips → stage_of (first_state day).stages t ≡ stage.Waiting
unfolding first_state stage_of
start_waits day t lt = waits day.trips t lt

start_gone : (day : Day) (t : ℕ) → length day.trips ≤ t → stage_of (first_state day).stages t ≡ stage.Arrived
unfolding first_state stage_of
start_gone day t ge = gone_already day.trips t ge

from_zero : (day : Day) (es : List DayEvent) → AllFrom day 0 es
from_zero day [] = tt
from_zero day (e ∷ es) = (omega arith, from_zero day es)

-- before the first event
pub timely_start : (day : Day) (es : List DayEvent) → IsOrder day es → Timely day (first_state day) es
unfolding first_state
timely_start day es order = record {
  lawful = lawful_order day es order;
  moment = from_zero day es;
  stages = length-map day.trips _;
  waiting = λ t c. start_waits day t (in_day t (let too = (lawful_order day es order).departs_too t in omega arith));
  under_way = λ t d a. (let one = order.departs_once t (in_day t a) in absurd (omega arith));
  arrived = λ t z. start_gone day t (past t z);
}
  where
    in_day : (t : ℕ) → 1 ≤ arrivals t es → t < length day.trips
    in_day t c = ⊎_elim (λ (lt : t < length day.trips). lt)
        (λ (ge : length day.trips ≤ t). let z = (lawful_order day es order).in_range t ge in absurd (omega arith)) (cases_lt t (length day.trips))

    past : (t : ℕ) → arrivals t es ≡ 0 → length day.trips ≤ t
    past t z = ⊎_elim (λ (lt : t < length day.trips). (let one = order.arrives_once t lt in absurd (omega arith)))
        (λ (ge : length day.trips ≤ t). ge) (cases_lt t (length day.trips))
