-- Along an order of the day no event is out of turn, and none is missing at the end, whatever the plan is.
use Rattle.std.proofs.Common.{◌≡◌, ℕ, List, [], ◌∷◌, length, Bool, true, false, cond, eqb, Option, Some, None, Result}
use Rattle.std.proofs.Common.{Ok, Err, refl, ap, ◌∙◌, subst}
use Rattle.std.specs.Prelude.{IsErrOf, unwrap_or, option_map, not}
use Rattle.timetable.specs.Admissible.{is_admissible}
use Rattle.timetable.specs.Accepted.{IsDay, AreLinks}
use Rattle.timetable.specs.Cost.{plan_cost}
use Rattle.timetable.specs.Day.{Day, types_of, wanted_of}
use Rattle.timetable.specs.Links.{list_of, taken}
use Rattle.timetable.specs.Lists.{below}
use Rattle.day_simulator.specs.declared.events.DayEvent.{DayEvent}
use Rattle.day_simulator.specs.declared.events.DayEvent.TheVariants.{Depart, Arrive}
use Rattle.day_simulator.specs.declared.events.Stage.TheVariants as stage
use Rattle.day_simulator.specs.declared.events.StepFault.{StepFault}
use Rattle.day_simulator.specs.declared.events.StepFault.TheVariants.{NotNow, NoUnits, NotAdmissible, LinkBroken}
use Rattle.day_simulator.specs.declared.events.StepFault.TheVariants.{NotInYard, Balance}
use Rattle.day_simulator.specs.State.{State, first_state, stage_of, is_waiting, has_arrived}
use Rattle.day_simulator.specs.Steps.{is_now, broken_into, broken_out, first_missing, fault_of, after, unless_fault}
use Rattle.day_simulator.specs.Steps.{steps, fixed_order}
use Rattle.day_simulator.specs.Finish.{is_made, first_not_made, yard_count, first_differing_type, first_differing}
use Rattle.day_simulator.specs.Finish.{or_else, ended, finish_of, finish_after, simulation}
use Rattle.day_simulator.specs.Laws.{IsInTurn, InTurn}
use Rattle.day_simulator.specs.declared.whole_day.Ran.{Ran}
use Rattle.day_simulator.specs.declared.whole_day.SimulateRefusal.TheVariants.{Stops}
use Rattle.day_simulator.proofs.Lawful.{fixed_is_order}
use Rattle.day_simulator.proofs.Linked.{arrive_in_time}
use Rattle.day_simulator.proofs.Timely.{Timely, ArriveInTime, timely_now_depart, timely_now_arrive, timely_depart}
use Rattle.day_simulator.proofs.Timely.{timely_arrive, timely_start}

-- ---- the fault of an event that may be made now

broken_or_missing : (e : DayEvent) (t : ℕ) (link unit : Option ℕ) → unwrap_or (option_map (λ l. Some (LinkBroken l)) link) (option_map (λ u. NotInYard u t) unit) ≡ Some (NotNow e) → ⊥
broken_or_missing e t (Some l) unit h = cc
broken_or_missing e t None (Some u) h = cc
broken_or_missing e t None None h = cc

departure_tests : (e : DayEvent) (t : ℕ) (empty fine : Bool) (link unit : Option ℕ)
    → cond empty (Some (NoUnits t)) (cond (not fine) (Some (NotAdmissible t)) (unwrap_or (option_map (λ l. Some (LinkBroken l)) link) (option_map (λ u. NotInYard u t) unit))) ≡ Some (NotNow e) → ⊥
departure_tests e t true fine link unit h = cc
departure_tests e t false false link unit h = cc
departure_tests e t false true link unit h = broken_or_missing e t link unit h

departure_in_turn : (day : Day) (plan : List (List ℕ)) (state : State) (t : ℕ) (e : DayEvent) → is_now day state (Depart t) ≡ true → fault_of day plan state (Depart t) ≡ Some (NotNow e) → ⊥
unfolding fault_of
departure_in_turn day plan state t e now h =
    departure_tests e t (eqb (length (list_of plan t)) 0) (is_admissible day t (types_of day (list_of plan t))) (broken_into day plan t) (first_missing day t state.locations (taken day plan t)) (rw now at h)

only_broken : (e : DayEvent) (link : Option ℕ) → option_map (λ l. LinkBroken l) link ≡ Some (NotNow e) → ⊥
only_broken e (Some l) h = cc
only_broken e None h = cc

arrival_in_turn : (day : Day) (plan : List (List ℕ)) (state : State) (t : ℕ) (e : DayEvent) → is_now day state (Arrive t) ≡ true → fault_of day plan state (Arrive t) ≡ Some (NotNow e) → ⊥
unfolding fault_of
arrival_in_turn day plan state t e now h = only_broken e (broken_out day plan t) (rw now at h)

-- ---- the events one after another

-- where the first event has no fault, the others are in turn; a fault that it has is none of its turn
unless : (fault : Option StepFault) (rest : Result State StepFault) (e : DayEvent) → (fault ≡ Some (NotNow e) → ⊥) → (rest ≡ Err (NotNow e) → ⊥) → unless_fault fault rest ≡ Err (NotNow e) → ⊥
unless None rest e here later h = later h
unless (Some fault) rest e here later h = here (ap (λ (f : StepFault). Some f) (same fault h))
  where
    same : (fault : StepFault) → ◌≡◌ {A = Result State StepFault} (Err fault) (Err (NotNow e)) → fault ≡ NotNow e
    same fault h = cc

through : (fault : Option StepFault) (rest : Result State StepFault) (final : State) → unless_fault fault rest ≡ Ok final → rest ≡ Ok final
through None rest final h = h
through (Some fault) rest final h = absurd cc

module _ (day : Day) (plan : List (List ℕ)) (is_day : IsDay day) (before : ArriveInTime day) where
  steps_in_turn : (state : State) (es : List DayEvent) (e : DayEvent) → Timely day state es → steps day plan state es ≡ Err (NotNow e) → ⊥
  steps_in_turn state [] e g h = cc
  steps_in_turn state (Depart t ∷ es) e g h =
      unless (fault_of day plan state (Depart t)) (steps day plan (after day plan state (Depart t)) es) e
      (departure_in_turn day plan state t e (timely_now_depart day is_day before state t es g))
      (steps_in_turn (after day plan state (Depart t)) es e (timely_depart day is_day plan state t es g)) h
  steps_in_turn state (Arrive t ∷ es) e g h =
      unless (fault_of day plan state (Arrive t)) (steps day plan (after day plan state (Arrive t)) es) e
      (arrival_in_turn day plan state t e (timely_now_arrive day is_day state t es g))
      (steps_in_turn (after day plan state (Arrive t)) es e (timely_arrive day is_day plan state t es g)) h

  timely_end : (state final : State) (es : List DayEvent) → Timely day state es → steps day plan state es ≡ Ok final → Timely day final []
  timely_end state final [] g h = subst (λ (s : State). Timely day s []) (same state final h) g
    where
      same : (s f : State) → ◌≡◌ {A = Result State StepFault} (Ok s) (Ok f) → s ≡ f
      same s f h = cc
  timely_end state final (Depart t ∷ es) g h =
      timely_end (after day plan state (Depart t)) final es (timely_depart day is_day plan state t es g) (through (fault_of day plan state (Depart t)) (steps day plan (after day plan state (Depart t)) es) final h)
  timely_end state final (Arrive t ∷ es) g h =
      timely_end (after day plan state (Arrive t)) final es (timely_arrive day is_day plan state t es g) (through (fault_of day plan state (Arrive t)) (steps day plan (after day plan state (Arrive t)) es) final h)

-- ---- the end of the day

-- once every trip has arrived, no event is missing
made : (state : State) (e : DayEvent) → ((t : ℕ) → stage_of state.stages t ≡ stage.Arrived) → is_made state e ≡ true
made state (Depart t) all = ap (λ s. not (is_waiting s)) (all t)
made state (Arrive t) all = ap has_arrived (all t)

none_missing : (state : State) (es : List DayEvent) → ((t : ℕ) → stage_of state.stages t ≡ stage.Arrived) → first_not_made state es ≡ None
none_missing state [] all = refl
none_missing state (e ∷ es) all = rw (made state e all) (none_missing state es all)

-- a count that differs is no event
by_count : (b : Bool) (s m count wanted : ℕ) (rest : Option StepFault) (e : DayEvent) → (rest ≡ Some (NotNow e) → ⊥) → cond b rest (Some (Balance s m count wanted)) ≡ Some (NotNow e) → ⊥
by_count true s m count wanted rest e later h = later h
by_count false s m count wanted rest e later h = cc

balance_type : (day : Day) (state : State) (s : ℕ) (ms : List ℕ) (e : DayEvent) → first_differing_type day state s ms ≡ Some (NotNow e) → ⊥
balance_type day state s [] e h = cc
balance_type day state s (m ∷ ms) e h =
    by_count (eqb (yard_count day state s m) (wanted_of day s m)) s m (yard_count day state s m) (wanted_of day s m) (first_differing_type day state s ms) e (balance_type day state s ms e) h

by_type : (o rest : Option StepFault) (e : DayEvent) → (o ≡ Some (NotNow e) → ⊥) → (rest ≡ Some (NotNow e) → ⊥) → or_else o rest ≡ Some (NotNow e) → ⊥
by_type None rest e here later h = later h
by_type (Some fault) rest e here later h = here h

balance : (day : Day) (state : State) (ss : List ℕ) (e : DayEvent) → first_differing day state ss ≡ Some (NotNow e) → ⊥
balance day state [] e h = cc
balance day state (s ∷ ss) e h =
    by_type (first_differing_type day state s (below (length day.types))) (first_differing day state ss) e (balance_type day state s (below (length day.types)) e) (balance day state ss e) h

end_in_turn : (fault : Option StepFault) (cost : ℕ) (e : DayEvent) → (fault ≡ Some (NotNow e) → ⊥) → ended None fault cost ≡ Err (NotNow e) → ⊥
end_in_turn None cost e balanced h = cc
end_in_turn (Some fault) cost e balanced h = balanced (ap (λ (f : StepFault). Some f) (same fault h))
  where
    same : (fault : StepFault) → ◌≡◌ {A = Result ℕ StepFault} (Err fault) (Err (NotNow e)) → fault ≡ NotNow e
    same fault h = cc

never_out_of_turn : (day : Day) (plan : List (List ℕ)) → IsDay day → AreLinks day → (e : DayEvent) → simulation day plan ≡ Err (NotNow e) → ⊥
unfolding simulation finish_of
never_out_of_turn day plan is_day links e h = by_steps (steps day plan (first_state day) (fixed_order day)) refl h
  where
    before : ArriveInTime day
    before = arrive_in_time day plan links

    start : Timely day (first_state day) (fixed_order day)
    start = timely_start day (fixed_order day) (fixed_is_order day)

    by_steps : (r : Result State StepFault) → steps day plan (first_state day) (fixed_order day) ≡ r → finish_after day plan r ≡ Err (NotNow e) → ⊥
    by_steps (Err fault) is h = steps_in_turn day plan is_day before (first_state day) (fixed_order day) e start (is ∙ ap (λ (f : StepFault). Err f) (same fault h))
      where
        same : (fault : StepFault) → ◌≡◌ {A = Result ℕ StepFault} (Err fault) (Err (NotNow e)) → fault ≡ NotNow e
        same fault h = cc
    by_steps (Ok final) is h =
        let end = timely_end day plan is_day before (first_state day) final (fixed_order day) start is in
        let none : first_not_made final (fixed_order day) ≡ None = none_missing final (fixed_order day) (λ t. end.arrived t refl) in
        end_in_turn (first_differing day final (below (length day.stations))) (plan_cost day plan) e (balance day final (below (length day.stations)) e)
        (subst (λ (o : Option DayEvent). ended o (first_differing day final (below (length day.stations))) (plan_cost day plan) ≡ Err (NotNow e)) none h)

pub in_turn : InTurn
in_turn day plan is_day links fault h e is = never_out_of_turn day plan is_day links e (h ∙ ap (λ (f : StepFault). Err f) is)

-- the fault that a whole day tells
pub stopped_in_turn : (day : Day) (plan : List (List ℕ)) → IsDay day → AreLinks day → (f g : StepFault) → simulation day plan ≡ Err f → IsErrOf {T = Ran} (Err (Stops f)) (Stops g) → IsInTurn g
stopped_in_turn day plan is_day links f g h is = subst IsInTurn (same f g is) (in_turn day plan is_day links f h)
  where
    same : (f g : StepFault) → IsErrOf {T = Ran} (Err (Stops f)) (Stops g) → f ≡ g
    same f g is = cc
