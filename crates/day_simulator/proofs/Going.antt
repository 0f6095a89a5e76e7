-- The whole day on its way: what holds of each state along the fixed order, and that each event keeps it.
use Rattle.std.proofs.Common.{◌≡◌, ℕ, zero, suc, ◌+◌, ◌<◌, ◌≤◌, List, [], ◌∷◌, length, map, Bool, true, false, cond}
use Rattle.std.proofs.Common.{eqb, Option, Some, None, refl, sym, ◌∙◌, subst, arith, ◌≢◌, ⊎_elim}
use Rattle.std.specs.Prelude.{slice_get, unwrap_or, option_map, not}
use Rattle.std.proofs.lemmas.Bool.{cases_eq, cases_lt, leb-true, le-leb, ne_eqb, and_parts}
use Rattle.std.proofs.lemmas.List.{length-map}
use Rattle.timetable.specs.Day.{Day, arrives, to_of, reallocation_of, home_of, units_of, unit_count, types_of, type_of}
use Rattle.timetable.specs.Lists.{count_of, IsDistinct}
use Rattle.timetable.specs.Accepted.{IsDay}
use Rattle.timetable.specs.Admissible.{is_admissible}
use Rattle.timetable.specs.Links.{list_of, given, taken}
use Rattle.timetable.specs.Running.{IsPlan}
use Rattle.rules.specs.declared.records.Unit as unit
use Rattle.day_simulator.specs.declared.events.DayEvent.{DayEvent}
use Rattle.day_simulator.specs.declared.events.DayEvent.TheVariants.{Depart, Arrive}
use Rattle.day_simulator.specs.declared.events.UnitLocation.TheVariants.{Yard, Aboard, Standing}
use Rattle.day_simulator.specs.declared.events.Stage.TheVariants as stage
use Rattle.day_simulator.specs.declared.events.StepFault.{StepFault}
use Rattle.day_simulator.specs.declared.events.StepFault.TheVariants.{NotNow, NoUnits, NotAdmissible, LinkBroken}
use Rattle.day_simulator.specs.declared.events.StepFault.TheVariants.{NotInYard}
use Rattle.day_simulator.specs.State.{State, first_state, location_of, stage_of, put_all}
use Rattle.day_simulator.specs.Steps.{is_now, broken_into, broken_out, first_missing, fault_of, after}
use Rattle.day_simulator.specs.Orders.{IsOrder, departures, arrivals, AllFrom}
use Rattle.timetable.proofs.Ones.{one_other}
use Rattle.day_simulator.proofs.Lawful.{Lawful, lawful_order}
use Rattle.day_simulator.proofs.Timely.{Timely, timely_now_depart, timely_now_arrive, timely_depart, timely_arrive}
use Rattle.day_simulator.proofs.Timely.{timely_start}
use Rattle.day_simulator.proofs.Places.{HavePlaces, length-put_all, put_in, put_out, Served, served_from_none}
use Rattle.day_simulator.proofs.Unbroken.{IsUnbroken}
use Rattle.timetable.proofs.Accounts.{kept_arrives}
use Rattle.day_simulator.proofs.Moves.{is_trip, Fits, DistinctSoFar, Boarding, fits_board, fits_pass_depart, fits_give}
use Rattle.day_simulator.proofs.Moves.{fits_keep, fits_pass_arrive, boarding_of, boards_once}

pub record Going (day : Day) (plan : List (List ℕ)) (state : State) (es : List DayEvent) : Type 0 where
  pub lawful : Lawful day es
  pub moment : AllFrom day state.moment es
  pub locations : length state.locations ≡ unit_count day
  pub stages : length state.stages ≡ length day.trips
  pub waiting : (t : ℕ) → 1 ≤ departures t es → stage_of state.stages t ≡ stage.Waiting
  pub under_way : (t : ℕ) → departures t es ≡ 0 → 1 ≤ arrivals t es → stage_of state.stages t ≡ stage.UnderWay
  pub arrived : (t : ℕ) → arrivals t es ≡ 0 → stage_of state.stages t ≡ stage.Arrived
  pub fits : (u : ℕ) → u < unit_count day → Fits day plan u (location_of state.locations u) es
  pub so_far : DistinctSoFar plan es

timely_of : (day : Day) (plan : List (List ℕ)) (state : State) (es : List DayEvent) → Going day plan state es → Timely day state es
timely_of day plan state es g = record { lawful = g.lawful; moment = g.moment; stages = g.stages; waiting = g.waiting; under_way = g.under_way; arrived = g.arrived }

-- a departure without a fault
pub record Departs (day : Day) (plan : List (List ℕ)) (state : State) (t : ℕ) : Type 0 where
  pub admissible : is_admissible day t (types_of day (list_of plan t)) ≡ true
  pub none_missing : first_missing day t state.locations (taken day plan t) ≡ None

pub tests_pass : {X : Type 0} (now empty fine : Bool) (x y z : X) (rest : Option X) → cond (not now) (Some x) (cond empty (Some y) (cond (not fine) (Some z) rest)) ≡ None → (fine ≡ true) × (rest ≡ None)
tests_pass false empty fine x y z rest e = absurd (cc)
tests_pass true true fine x y z rest e = absurd (cc)
tests_pass true false false x y z rest e = absurd (cc)
tests_pass true false true x y z rest e = (refl, e)

pub option_map_none : {X Y : Type 0} (f : X → Y) (o : Option X) → option_map f o ≡ None → o ≡ None
option_map_none f None e = refl
option_map_none f (Some x) e = absurd (cc)

pub departs_from_none : (day : Day) (plan : List (List ℕ)) (state : State) (t : ℕ) → broken_into day plan t ≡ None → fault_of day plan state (Depart t) ≡ None → Departs day plan state t
unfolding fault_of
departs_from_none day plan state t into e =
    let rest : Option StepFault = unwrap_or (option_map (λ l. Some (LinkBroken l)) (broken_into day plan t)) (option_map (λ u. NotInYard u t) (first_missing day t state.locations (taken day plan t))) in
    let both = tests_pass (is_now day state (Depart t)) (eqb (length (list_of plan t)) 0) (is_admissible day t (types_of day (list_of plan t))) (NotNow (Depart t)) (NoUnits t) (NotAdmissible t) rest e in
    let none : option_map (λ u. NotInYard u t) (first_missing day t state.locations (taken day plan t)) ≡ None = rw into at both.1 in
    record { admissible = both.0; none_missing = option_map_none (λ u. NotInYard u t) (first_missing day t state.locations (taken day plan t)) none }

some_units : (day : Day) (t : ℕ) (types : List ℕ) → is_admissible day t types ≡ true → 1 ≤ length types
unfolding is_admissible
some_units day t types e = leb-true 1 (length types) (and_parts _ _ (and_parts _ _ (and_parts _ _ (and_parts _ _ e).0).0).0).0

pub none_from_departs : (day : Day) (plan : List (List ℕ)) (state : State) (t : ℕ) → is_now day state (Depart t) ≡ true → broken_into day plan t ≡ None → Departs day plan state t → fault_of day plan state (Depart t) ≡ None
unfolding fault_of
none_from_departs day plan state t now into h =
    let some = some_units day t (types_of day (list_of plan t)) h.admissible in
    let same = length-map (list_of plan t) (type_of day) in
    let filled : eqb (length (list_of plan t)) 0 ≡ false = ne_eqb (length (list_of plan t)) 0 (λ e. absurd (omega arith)) in
    rw (now, filled, h.admissible, into, h.none_missing) refl

pub none_from_arrives : (day : Day) (plan : List (List ℕ)) (state : State) (t : ℕ) → is_now day state (Arrive t) ≡ true → broken_out day plan t ≡ None → fault_of day plan state (Arrive t) ≡ None
unfolding fault_of
none_from_arrives day plan state t now out = rw (now, out) refl

have_places : (day : Day) (plan : List (List ℕ)) (t n : ℕ) (us : List ℕ) → IsPlan day plan → n ≡ unit_count day → ((u : ℕ) → count_of u us ≤ count_of u (list_of plan t)) → HavePlaces n us
have_places day plan t n us is_plan same le = record {
  within = λ v c. let l = le v in let lt = is_plan.units t v (le-leb 1 (count_of v (list_of plan t)) (omega arith)) in omega arith;
}

module _ (day : Day) (plan : List (List ℕ)) (is_day : IsDay day) (is_plan : IsPlan day plan) (accounted : IsUnbroken day plan) where
  pub taken_within : (t u : ℕ) → count_of u (taken day plan t) ≤ count_of u (list_of plan t)
  taken_within t u = let total = (accounted.accounts.takes t).total u in omega arith

  pub given_within : (t u : ℕ) → count_of u (given day plan t) ≤ count_of u (list_of plan t)
  given_within t u = let total = (accounted.accounts.gives t).total u in omega arith

  pub now_depart : (state : State) (t : ℕ) (es : List DayEvent) → Going day plan state (Depart t ∷ es) → is_now day state (Depart t) ≡ true
  now_depart state t es g = timely_now_depart day is_day accounted.before state t es (timely_of day plan state (Depart t ∷ es) g)

  pub now_arrive : (state : State) (t : ℕ) (es : List DayEvent) → Going day plan state (Arrive t ∷ es) → is_now day state (Arrive t) ≡ true
  now_arrive state t es g = timely_now_arrive day is_day state t es (timely_of day plan state (Arrive t ∷ es) g)

  -- where units are after an event
  module _ (state : State) (t : ℕ) (same : length state.locations ≡ unit_count day) where
    pub place_aboard : (u : ℕ) → 1 ≤ count_of u (list_of plan t) → location_of (after day plan state (Depart t)).locations u ≡ Aboard t
    unfolding after
    place_aboard u c = put_in state.locations (list_of plan t) (Aboard t) u (have_places day plan t _ (list_of plan t) is_plan same (λ v. omega arith)) c

    pub place_stays : (u : ℕ) → count_of u (list_of plan t) ≡ 0 → location_of (after day plan state (Depart t)).locations u ≡ location_of state.locations u
    unfolding after
    place_stays u c = put_out state.locations (list_of plan t) (Aboard t) u c

    pub place_given : (u : ℕ) → 1 ≤ count_of u (given day plan t) → location_of (after day plan state (Arrive t)).locations u ≡ Yard (to_of day t) (arrives day t + reallocation_of day (to_of day t))
    unfolding after
    place_given u c = put_in (put_all state.locations (list_of plan t) (Standing t)) (given day plan t) (Yard (to_of day t) (arrives day t + reallocation_of day (to_of day t))) u
        (have_places day plan t _ (given day plan t) is_plan (length-put_all state.locations (list_of plan t) (Standing t) ∙ same) (given_within t)) c

    pub place_kept : (u : ℕ) → 1 ≤ count_of u (list_of plan t) → count_of u (given day plan t) ≡ 0 → location_of (after day plan state (Arrive t)).locations u ≡ Standing t
    unfolding after
    place_kept u c none =
        put_out (put_all state.locations (list_of plan t) (Standing t)) (given day plan t) _ u none
        ∙ put_in state.locations (list_of plan t) (Standing t) u (have_places day plan t _ (list_of plan t) is_plan same (λ v. omega arith)) c

    pub place_remains : (u : ℕ) → count_of u (list_of plan t) ≡ 0 → location_of (after day plan state (Arrive t)).locations u ≡ location_of state.locations u
    unfolding after
    place_remains u none =
        let le = given_within t u in
        put_out (put_all state.locations (list_of plan t) (Standing t)) (given day plan t) _ u (omega arith)
        ∙ put_out state.locations (list_of plan t) (Standing t) u none

  served_of : (state : State) (t : ℕ) (es : List DayEvent) → Going day plan state (Depart t ∷ es) → Departs day plan state t → Served day t state.locations (taken day plan t)
  served_of state t es g h = served_from_none day t state.locations (taken day plan t) (have_places day plan t _ (taken day plan t) is_plan g.locations (taken_within t)) h.none_missing

  pub boarding : (state : State) (t : ℕ) (es : List DayEvent) (u : ℕ) → Going day plan state (Depart t ∷ es) → Departs day plan state t → 1 ≤ count_of u (list_of plan t) → Boarding day plan u t (location_of state.locations u)
  boarding state t es u g h c =
      boarding_of day plan is_day is_plan accounted u t (location_of state.locations u) es g.lawful c
      (λ k. (served_of state t es g h).ready.ready u k)
      (g.fits u (is_plan.units t u (le-leb 1 (count_of u (list_of plan t)) c)))

  pub distinct_here : (state : State) (t : ℕ) (es : List DayEvent) → Going day plan state (Depart t ∷ es) → Departs day plan state t → IsDistinct (list_of plan t)
  distinct_here state t es g h u =
      ⊎_elim (λ (c : 0 < count_of u (list_of plan t)).
      boards_once day plan is_day is_plan accounted u t (location_of state.locations u) es g.lawful g.so_far ((served_of state t es g h).distinct u)
      (λ k. (served_of state t es g h).ready.ready u k)
      (g.fits u (is_plan.units t u (le-leb 1 (count_of u (list_of plan t)) (omega arith)))))
      (λ (c : count_of u (list_of plan t) ≤ 0). omega arith) (cases_lt 0 (count_of u (list_of plan t)))

  pub going_depart : (state : State) (t : ℕ) (es : List DayEvent) → Going day plan state (Depart t ∷ es) → Departs day plan state t → Going day plan (after day plan state (Depart t)) es
  unfolding after
  going_depart state t es g h =
      let timely = timely_depart day is_day plan state t es (timely_of day plan state (Depart t ∷ es) g) in
      record {
        lawful = timely.lawful;
        moment = timely.moment;
        locations = length-put_all state.locations (list_of plan t) (Aboard t) ∙ g.locations;
        stages = timely.stages;
        waiting = timely.waiting;
        under_way = timely.under_way;
        arrived = timely.arrived;
        fits = λ u lt. ⊎_elim
            (λ (c : 0 < count_of u (list_of plan t)).
            let mine : 1 ≤ count_of u (list_of plan t) = omega arith in
            subst (λ p. Fits day plan u p es) (sym (place_aboard state t g.locations u mine))
            (fits_board day plan is_day is_plan accounted u t (location_of state.locations u) es g.lawful g.so_far mine (g.fits u lt) (boarding state t es u g h mine)))
            (λ (c : count_of u (list_of plan t) ≤ 0).
            let none : count_of u (list_of plan t) ≡ 0 = omega arith in
            subst (λ p. Fits day plan u p es) (sym (place_stays state t g.locations u none))
            (fits_pass_depart day plan is_day is_plan accounted u t (location_of state.locations u) es none (g.fits u lt)))
            (cases_lt 0 (count_of u (list_of plan t)));
        so_far = record {
          distinct = λ a none. ⊎_elim (λ (e : t ≡ a). subst (λ x. IsDistinct (list_of plan x)) e (distinct_here state t es g h))
              (λ (ne : t ≢ a). let o = one_other t a ne in g.so_far.distinct a (omega arith)) (cases_eq t a);
        };
      }

  pub going_arrive : (state : State) (t : ℕ) (es : List DayEvent) → Going day plan state (Arrive t ∷ es) → Going day plan (after day plan state (Arrive t)) es
  unfolding after
  going_arrive state t es g =
      let timely = timely_arrive day is_day plan state t es (timely_of day plan state (Arrive t ∷ es) g) in
      record {
        lawful = timely.lawful;
        moment = timely.moment;
        locations = length-put_all (put_all state.locations (list_of plan t) (Standing t)) (given day plan t) _ ∙ length-put_all state.locations (list_of plan t) (Standing t) ∙ g.locations;
        stages = timely.stages;
        waiting = timely.waiting;
        under_way = timely.under_way;
        arrived = timely.arrived;
        fits = λ u lt. ⊎_elim
            (λ (c : 0 < count_of u (list_of plan t)).
            let mine : 1 ≤ count_of u (list_of plan t) = omega arith in
            ⊎_elim
            (λ (d : 0 < count_of u (given day plan t)).
            let gives : 1 ≤ count_of u (given day plan t) = omega arith in
            subst (λ p. Fits day plan u p es) (sym (place_given state t g.locations u gives))
            (fits_give day plan is_day is_plan accounted u t _ _ (location_of state.locations u) es g.lawful g.so_far mine gives (g.fits u lt)))
            (λ (d : count_of u (given day plan t) ≤ 0).
            let none : count_of u (given day plan t) ≡ 0 = omega arith in
            subst (λ p. Fits day plan u p es) (sym (place_kept state t g.locations u mine none))
            (fits_keep day plan is_day is_plan accounted u t (location_of state.locations u) es g.lawful mine none (g.fits u lt)))
            (cases_lt 0 (count_of u (given day plan t))))
            (λ (c : count_of u (list_of plan t) ≤ 0).
            let none : count_of u (list_of plan t) ≡ 0 = omega arith in
            subst (λ p. Fits day plan u p es) (sym (place_remains state t g.locations u none))
            (fits_pass_arrive day plan is_day is_plan accounted u t (location_of state.locations u) es none (g.fits u lt)))
            (cases_lt 0 (count_of u (list_of plan t)));
        so_far = record { distinct = g.so_far.distinct };
      }

home_place : (us : List unit.Unit) (u : ℕ) → u < length us → unwrap_or (slice_get (map (λ unit. Yard unit.home 0) us) u) (Yard 0 0) ≡ Yard (unwrap_or (option_map (λ (x : unit.Unit). x.home) (slice_get us u)) 0) 0
home_place [] u lt = absurd (omega arith)
home_place (x ∷ us) zero lt = refl
home_place (x ∷ us) (suc u) lt = home_place us u (omega arith)

-- at the start each unit is at home
pub start_place : (day : Day) (u : ℕ) → u < unit_count day → location_of (first_state day).locations u ≡ Yard (home_of day u) 0
unfolding first_state location_of home_of
start_place day u lt = home_place (units_of day) u lt

pub going_start : (day : Day) (plan : List (List ℕ)) (es : List DayEvent) → IsOrder day es → IsPlan day plan → IsUnbroken day plan → Going day plan (first_state day) es
unfolding first_state
going_start day plan es order is_plan accounted =
    let timely = timely_start day es order in record {
      lawful = timely.lawful;
      moment = timely.moment;
      locations = length-map (units_of day) _;
      stages = timely.stages;
      waiting = timely.waiting;
      under_way = timely.under_way;
      arrived = timely.arrived;
      fits = λ u lt. subst (λ p. Fits day plan u p es) (sym (start_place day u lt)) (record {
        under_way = λ t c d a. (let one = order.departs_once t (in_day t a) in absurd (omega arith));
        pending = λ a b k gone yet.
            let le = kept_arrives day plan accounted.accounts u a b in
            let trip = is_trip day plan u a is_plan (omega arith) in
            let one = order.arrives_once a trip in
            absurd (omega arith);
        aboard = λ t e. absurd (cc);
        standing = λ t e. absurd (cc);
      });
      so_far = record {
        distinct = λ a none u.
            ⊎_elim (λ (c : 0 < count_of u (list_of plan a)).
            let trip = is_trip day plan u a is_plan (omega arith) in
            let one = order.departs_once a trip in
            absurd (omega arith))
            (λ (c : count_of u (list_of plan a) ≤ 0). omega arith) (cases_lt 0 (count_of u (list_of plan a)));
      };
    }
  where
    in_day : (t : ℕ) → 1 ≤ arrivals t es → t < length day.trips
    in_day t c = ⊎_elim (λ (lt : t < length day.trips). lt)
        (λ (ge : length day.trips ≤ t). let z = (lawful_order day es order).in_range t ge in absurd (omega arith)) (cases_lt t (length day.trips))
