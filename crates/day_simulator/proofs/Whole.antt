-- The whole day: it goes through exactly where each list may run and each unit can board its trips one after another.
use Rattle.std.proofs.Common.{◌≡◌, ◌+◌, ℕ, zero, suc, ◌<◌, ◌≤◌, List, [], ◌∷◌, Bool, true, Option, Some, None, Result}
use Rattle.std.proofs.Common.{Ok, refl, sym, ap, ◌∙◌, subst, arith, ◌≢◌, ⊎_elim, ◌⊎◌, inl, inr}
use Rattle.std.proofs.lemmas.Bool.{cases_eq, le-leb, lt-leb, cond-true, cond-false}
use Rattle.timetable.specs.Day.{Day, leaves, arrives, from_of, to_of, reallocation_of, unit_count}
use Rattle.timetable.specs.Lists.{count_of, has}
use Rattle.timetable.specs.Accepted.{IsDay}
use Rattle.timetable.specs.Links.{list_of, given, taken}
use Rattle.timetable.specs.Duties.{ends_at}
use Rattle.rules.proofs.OfTheStock.{MayRun}
use Rattle.timetable.specs.Running.{IsPlan}
use Rattle.day_simulator.specs.declared.events.DayEvent.{DayEvent}
use Rattle.day_simulator.specs.declared.events.DayEvent.TheVariants.{Depart, Arrive}
use Rattle.day_simulator.specs.declared.events.UnitLocation.{UnitLocation}
use Rattle.day_simulator.specs.declared.events.UnitLocation.TheVariants.{Yard, Aboard, Standing}
use Rattle.day_simulator.specs.declared.events.Stage.TheVariants as stage
use Rattle.day_simulator.specs.declared.events.StepFault.{StepFault}
use Rattle.day_simulator.specs.State.{State, location_of, stage_of, is_ready}
use Rattle.day_simulator.specs.Steps.{fault_of, after, steps, unless_fault}
use Rattle.day_simulator.specs.Orders.{ready_after, departures}
use Rattle.timetable.proofs.Ones.{one_same, one_other}
use Rattle.day_simulator.proofs.Lawful.{left_arrive}
use Rattle.day_simulator.proofs.Legs.{legs}
use Rattle.day_simulator.proofs.Places.{none_from_served}
use Rattle.day_simulator.proofs.Unbroken.{IsUnbroken}
use Rattle.day_simulator.proofs.Moves.{Fits, BoardsAll, arrives_aboard, ready_from_boards, boards_all_give}
use Rattle.day_simulator.proofs.Moves.{boards_all_give_back, boards_all_keep, boards_all_keep_back}
use Rattle.day_simulator.proofs.Going.{Going, Departs, departs_from_none, none_from_departs, none_from_arrives}
use Rattle.day_simulator.proofs.Going.{taken_within, now_depart, now_arrive, place_aboard, place_stays, place_given}
use Rattle.day_simulator.proofs.Going.{place_kept, place_remains, boarding, distinct_here, going_depart, going_arrive}

-- whether a trip has a unit
abbrev pub runs_on : List (List ℕ) → ℕ → ℕ → Bool
runs_on plan u t = has u (list_of plan t)

-- the trips that a unit has still to board
abbrev pub to_board : List (List ℕ) → ℕ → List DayEvent → List ℕ
to_board plan u es = legs (runs_on plan u) es

-- where a unit is, or will be once its trip has arrived
abbrev pub station_of : Day → UnitLocation → ℕ
station_of day (Yard s r) = s
station_of day (Aboard t) = to_of day t
station_of day (Standing t) = to_of day t

-- from when on it is ready there, once its trip has given it to the yard
abbrev pub ready_of : Day → UnitLocation → ℕ
ready_of day (Yard s r) = r
ready_of day (Aboard t) = arrives day t + reallocation_of day (to_of day t)
ready_of day (Standing t) = arrives day t + reallocation_of day (to_of day t)

-- where a unit is once it has run on these trips
abbrev pub end_of : Day → UnitLocation → List ℕ → UnitLocation
end_of day place ts = Yard (ends_at day (station_of day place) ts) (ready_after day (ready_of day place) ts)

-- the lists of the trips still to depart may run, and each unit can board its trips still to depart
pub record Good (day : Day) (plan : List (List ℕ)) (state : State) (es : List DayEvent) : Type 0 where
  pub lists : (t : ℕ) → 1 ≤ departures t es → MayRun day t (list_of plan t)
  pub boardings : (u : ℕ) → u < unit_count day → BoardsAll day plan u (location_of state.locations u) (to_board plan u es)

-- every trip has arrived, and each unit is in the yard where its trips end
pub record Ended (day : Day) (plan : List (List ℕ)) (state : State) (es : List DayEvent) (final : State) : Type 0 where
  pub arrived : (t : ℕ) → stage_of final.stages t ≡ stage.Arrived
  pub yards : (u : ℕ) → u < unit_count day → location_of final.locations u ≡ end_of day (location_of state.locations u) (to_board plan u es)

pub record Ran (day : Day) (plan : List (List ℕ)) (state : State) (es : List DayEvent) (final : State) : Type 0 where
  pub good : Good day plan state es
  pub ended : Ended day plan state es final

board_mine : (plan : List (List ℕ)) (u t : ℕ) (es : List DayEvent) → 1 ≤ count_of u (list_of plan t) → to_board plan u (Depart t ∷ es) ≡ t ∷ to_board plan u es
board_mine plan u t es c = cond-true (has u (list_of plan t)) (t ∷ to_board plan u es) (to_board plan u es) (le-leb 1 (count_of u (list_of plan t)) c)

board_other : (plan : List (List ℕ)) (u t : ℕ) (es : List DayEvent) → count_of u (list_of plan t) ≡ 0 → to_board plan u (Depart t ∷ es) ≡ to_board plan u es
board_other plan u t es c = cond-false (has u (list_of plan t)) (t ∷ to_board plan u es) (to_board plan u es) (lt-leb 1 (count_of u (list_of plan t)) (omega arith))

-- a number is in a list or not
there_or_not : (n : ℕ) → (1 ≤ n) ⊎ (n ≡ 0)
there_or_not zero = inr refl
there_or_not (suc n) = inl (omega arith)

pub no_fault : (fault : Option StepFault) (rest : Result State StepFault) (final : State) → unless_fault fault rest ≡ Ok final → (fault ≡ None) × (rest ≡ Ok final)
no_fault None rest final e = (refl, e)
no_fault (Some f) rest final e = absurd (cc)

module _ (day : Day) (plan : List (List ℕ)) (is_day : IsDay day) (is_plan : IsPlan day plan) (accounted : IsUnbroken day plan) where
  -- where the lists and the boardings are right, a departure has no fault
  departs_from_good : (state : State) (t : ℕ) (es : List DayEvent) → Going day plan state (Depart t ∷ es) → Good day plan state (Depart t ∷ es) → Departs day plan state t
  departs_from_good state t es g good =
      let o = one_same t t refl in
      let may = good.lists t (omega arith) in
      record {
        admissible = may.admissible;
        none_missing = none_from_served day t state.locations (taken day plan t) (record {
          distinct = λ v. let le = taken_within day plan is_day is_plan accounted t v in let d = may.distinct v in omega arith;
          ready = record { ready = λ v c. ready v c may };
        });
      }
    where
      ready : (v : ℕ) → 1 ≤ count_of v (taken day plan t) → MayRun day t (list_of plan t) → is_ready (from_of day t) (leaves day t) (location_of state.locations v) ≡ true
      ready v c may =
          let le = taken_within day plan is_day is_plan accounted t v in
          let mine : 1 ≤ count_of v (list_of plan t) = omega arith in
          let lt = is_plan.units t v (le-leb 1 (count_of v (list_of plan t)) mine) in
          let boarding_all = subst (λ l. BoardsAll day plan v (location_of state.locations v) l) (board_mine plan v t es mine) (good.boardings v lt) in
          ready_from_boards day plan is_day is_plan accounted v t (location_of state.locations v) es g.lawful (may.distinct v) c (g.fits v lt) boarding_all.0

  good_departed : (state : State) (t : ℕ) (es : List DayEvent) → Going day plan state (Depart t ∷ es) → Good day plan state (Depart t ∷ es) → Good day plan (after day plan state (Depart t)) es
  good_departed state t es g good = record {
    lists = λ s c. good.lists s (omega arith);
    boardings = λ u lt. ⊎_elim
        (λ (c : 1 ≤ count_of u (list_of plan t)).
        let boarding_all = subst (λ l. BoardsAll day plan u (location_of state.locations u) l) (board_mine plan u t es c) (good.boardings u lt) in
        subst (λ p. BoardsAll day plan u p (to_board plan u es)) (sym (place_aboard day plan is_day is_plan accounted state t g.locations u c)) boarding_all.1)
        (λ (c : count_of u (list_of plan t) ≡ 0).
        let boarding_all = subst (λ l. BoardsAll day plan u (location_of state.locations u) l) (board_other plan u t es c) (good.boardings u lt) in
        subst (λ p. BoardsAll day plan u p (to_board plan u es)) (sym (place_stays day plan is_day is_plan accounted state t g.locations u c)) boarding_all)
        (there_or_not (count_of u (list_of plan t)));
  }

  good_arrived : (state : State) (t : ℕ) (es : List DayEvent) → Going day plan state (Arrive t ∷ es) → Good day plan state (Arrive t ∷ es) → Good day plan (after day plan state (Arrive t)) es
  good_arrived state t es g good = record {
    lists = good.lists;
    boardings = λ u lt. ⊎_elim
        (λ (c : 1 ≤ count_of u (list_of plan t)).
        let at = arrives_aboard day plan is_day is_plan accounted u t (location_of state.locations u) es g.lawful c (g.fits u lt) in
        let boarding_all = subst (λ p. BoardsAll day plan u p (to_board plan u es)) at (good.boardings u lt) in
        let once = g.so_far.distinct t (left_arrive day t es is_day g.lawful).departs u in
        ⊎_elim
        (λ (d : 1 ≤ count_of u (given day plan t)).
        subst (λ p. BoardsAll day plan u p (to_board plan u es)) (sym (place_given day plan is_day is_plan accounted state t g.locations u d))
        (boards_all_give day plan is_day is_plan accounted u t (to_board plan u es) once d boarding_all))
        (λ (d : count_of u (given day plan t) ≡ 0).
        subst (λ p. BoardsAll day plan u p (to_board plan u es)) (sym (place_kept day plan is_day is_plan accounted state t g.locations u c d))
        (boards_all_keep day plan is_day is_plan accounted u t (to_board plan u es) d boarding_all))
        (there_or_not (count_of u (given day plan t))))
        (λ (c : count_of u (list_of plan t) ≡ 0).
        subst (λ p. BoardsAll day plan u p (to_board plan u es)) (sym (place_remains day plan is_day is_plan accounted state t g.locations u c)) (good.boardings u lt))
        (there_or_not (count_of u (list_of plan t)));
  }

  pub run_forward : (es : List DayEvent) (state : State) → Going day plan state es → Good day plan state es → (final : State) × (steps day plan state es ≡ Ok final)
  run_forward [] state g good = (state, refl)
  run_forward (Depart t ∷ es) state g good =
      let d = departs_from_good state t es g good in
      let none = none_from_departs day plan state t (now_depart day plan is_day is_plan accounted state t es g) (accounted.into t) d in
      let rest = run_forward es (after day plan state (Depart t)) (going_depart day plan is_day is_plan accounted state t es g d) (good_departed state t es g good) in
      (rest.0, ap (λ f. unless_fault f (steps day plan (after day plan state (Depart t)) es)) none ∙ rest.1)
  run_forward (Arrive t ∷ es) state g good =
      let none = none_from_arrives day plan state t (now_arrive day plan is_day is_plan accounted state t es g) (accounted.out t) in
      let rest = run_forward es (after day plan state (Arrive t)) (going_arrive day plan is_day is_plan accounted state t es g) (good_arrived state t es g good) in
      (rest.0, ap (λ f. unless_fault f (steps day plan (after day plan state (Arrive t)) es)) none ∙ rest.1)

  -- the other way round
  ran_depart : (state : State) (t : ℕ) (es : List DayEvent) (final : State) → Going day plan state (Depart t ∷ es) → Departs day plan state t → Ran day plan (after day plan state (Depart t)) es final → Ran day plan state (Depart t ∷ es) final
  ran_depart state t es final g d ran = record {
    good = record {
      lists = λ s c. ⊎_elim
          (λ (e : t ≡ s). subst (λ x. MayRun day x (list_of plan x)) e (record { distinct = distinct_here day plan is_day is_plan accounted state t es g d; admissible = d.admissible }))
          (λ (ne : t ≢ s). let o = one_other t s ne in ran.good.lists s (omega arith)) (cases_eq t s);
      boardings = λ u lt. ⊎_elim
          (λ (c : 1 ≤ count_of u (list_of plan t)).
          let b = boarding day plan is_day is_plan accounted state t es u g d c in
          let boarding_all = subst (λ p. BoardsAll day plan u p (to_board plan u es)) (place_aboard day plan is_day is_plan accounted state t g.locations u c) (ran.good.boardings u lt) in
          subst (λ l. BoardsAll day plan u (location_of state.locations u) l) (sym (board_mine plan u t es c)) (b.boards, boarding_all))
          (λ (c : count_of u (list_of plan t) ≡ 0).
          let boarding_all = subst (λ p. BoardsAll day plan u p (to_board plan u es)) (place_stays day plan is_day is_plan accounted state t g.locations u c) (ran.good.boardings u lt) in
          subst (λ l. BoardsAll day plan u (location_of state.locations u) l) (sym (board_other plan u t es c)) boarding_all)
          (there_or_not (count_of u (list_of plan t)));
    };
    ended = record {
      arrived = ran.ended.arrived;
      yards = λ u lt. ran.ended.yards u lt ∙ ⊎_elim
          (λ (c : 1 ≤ count_of u (list_of plan t)).
          ap (λ p. end_of day p (to_board plan u es)) (place_aboard day plan is_day is_plan accounted state t g.locations u c)
          ∙ ap (λ l. end_of day (location_of state.locations u) l) (sym (board_mine plan u t es c)))
          (λ (c : count_of u (list_of plan t) ≡ 0).
          ap (λ p. end_of day p (to_board plan u es)) (place_stays day plan is_day is_plan accounted state t g.locations u c)
          ∙ ap (λ l. end_of day (location_of state.locations u) l) (sym (board_other plan u t es c)))
          (there_or_not (count_of u (list_of plan t)));
    };
  }

  ran_arrive : (state : State) (t : ℕ) (es : List DayEvent) (final : State) → Going day plan state (Arrive t ∷ es) → Ran day plan (after day plan state (Arrive t)) es final → Ran day plan state (Arrive t ∷ es) final
  ran_arrive state t es final g ran = record {
    good = record {
      lists = ran.good.lists;
      boardings = λ u lt. ⊎_elim
          (λ (c : 1 ≤ count_of u (list_of plan t)).
          let at = arrives_aboard day plan is_day is_plan accounted u t (location_of state.locations u) es g.lawful c (g.fits u lt) in
          subst (λ p. BoardsAll day plan u p (to_board plan u es)) (sym at) (⊎_elim
          (λ (d : 1 ≤ count_of u (given day plan t)).
          boards_all_give_back day plan is_day is_plan accounted u t (to_board plan u es) d
          (subst (λ p. BoardsAll day plan u p (to_board plan u es)) (place_given day plan is_day is_plan accounted state t g.locations u d) (ran.good.boardings u lt)))
          (λ (d : count_of u (given day plan t) ≡ 0).
          boards_all_keep_back day plan is_day is_plan accounted u t (to_board plan u es)
          (subst (λ p. BoardsAll day plan u p (to_board plan u es)) (place_kept day plan is_day is_plan accounted state t g.locations u c d) (ran.good.boardings u lt)))
          (there_or_not (count_of u (given day plan t)))))
          (λ (c : count_of u (list_of plan t) ≡ 0).
          subst (λ p. BoardsAll day plan u p (to_board plan u es)) (place_remains day plan is_day is_plan accounted state t g.locations u c) (ran.good.boardings u lt))
          (there_or_not (count_of u (list_of plan t)));
    };
    ended = record {
      arrived = ran.ended.arrived;
      yards = λ u lt. ran.ended.yards u lt ∙ ⊎_elim
          (λ (c : 1 ≤ count_of u (list_of plan t)).
          let at = arrives_aboard day plan is_day is_plan accounted u t (location_of state.locations u) es g.lawful c (g.fits u lt) in
          ⊎_elim
          (λ (d : 1 ≤ count_of u (given day plan t)).
          ap (λ p. end_of day p (to_board plan u es)) (place_given day plan is_day is_plan accounted state t g.locations u d)
          ∙ ap (λ p. end_of day p (to_board plan u es)) (sym at))
          (λ (d : count_of u (given day plan t) ≡ 0).
          ap (λ p. end_of day p (to_board plan u es)) (place_kept day plan is_day is_plan accounted state t g.locations u c d)
          ∙ ap (λ p. end_of day p (to_board plan u es)) (sym at))
          (there_or_not (count_of u (given day plan t))))
          (λ (c : count_of u (list_of plan t) ≡ 0). ap (λ p. end_of day p (to_board plan u es)) (place_remains day plan is_day is_plan accounted state t g.locations u c))
          (there_or_not (count_of u (list_of plan t)));
    };
  }

  in_yard : (u : ℕ) (place : UnitLocation) → Fits day plan u place [] → place ≡ Yard (station_of day place) (ready_of day place)
  in_yard u (Yard s r) fits = refl
  in_yard u (Aboard t) fits = let f = fits.aboard t refl in let some = f.2 in absurd (omega arith)
  in_yard u (Standing t) fits = let f = fits.standing t refl in let some = f.3 in absurd (omega arith)

  pub run_backward : (es : List DayEvent) (state final : State) → Going day plan state es → steps day plan state es ≡ Ok final → Ran day plan state es final
  run_backward [] state final g e =
      let same : state ≡ final = cc in
      subst (λ s. Ran day plan state [] s) same (record {
        good = record { lists = λ t c. absurd (omega arith); boardings = λ u lt. tt };
        ended = record { arrived = λ t. g.arrived t refl; yards = λ u lt. in_yard u (location_of state.locations u) (g.fits u lt) };
      })
  run_backward (Depart t ∷ es) state final g e =
      let both = no_fault (fault_of day plan state (Depart t)) (steps day plan (after day plan state (Depart t)) es) final e in
      let d = departs_from_none day plan state t (accounted.into t) both.0 in
      ran_depart state t es final g d (run_backward es (after day plan state (Depart t)) final (going_depart day plan is_day is_plan accounted state t es g d) both.1)
  run_backward (Arrive t ∷ es) state final g e =
      let both = no_fault (fault_of day plan state (Arrive t)) (steps day plan (after day plan state (Arrive t)) es) final e in
      ran_arrive state t es final g (run_backward es (after day plan state (Arrive t)) final (going_arrive day plan is_day is_plan accounted state t es g) both.1)
