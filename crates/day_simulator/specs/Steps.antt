-- One step of the day: its first fault, and the state after it.
use Rattle.std.specs.Prelude.{ℕ, List, [], ◌∷◌, Bool, true, false, not, ◌&&◌, ◌==◌, if◌then◌else◌, Option, Some}
use Rattle.std.specs.Prelude.{None, option_map, option_and_then, unwrap_or, slice_get, slice_set, nat_le, length}
use Rattle.std.specs.Prelude.{Result, Ok, Err}
use Rattle.std.specs.List.{list_all}
use Rattle.rules.specs.declared.records.LinkKind.{LinkKind}
use Rattle.rules.specs.declared.records.LinkKind.TheVariants.{Turn, Join, Split}
use Rattle.timetable.specs.Day.{Day, leaves, from_of, to_of, type_of, types_of, ready_at}
use Rattle.timetable.specs.Admissible.{is_admissible}
use Rattle.timetable.specs.Links.{list_of, incoming, outgoing, trips_into, link_holds, given, taken}
use Rattle.timetable.specs.Lists.{below}
use Rattle.day_simulator.specs.declared.events.DayEvent.{DayEvent}
use Rattle.day_simulator.specs.declared.events.DayEvent.TheVariants.{Depart, Arrive}
use Rattle.day_simulator.specs.declared.events.UnitLocation.{UnitLocation}
use Rattle.day_simulator.specs.declared.events.UnitLocation.TheVariants.{Yard, Aboard, Standing}
use Rattle.day_simulator.specs.declared.events.Stage.TheVariants as stage
use Rattle.day_simulator.specs.declared.events.StepFault.{StepFault}
use Rattle.day_simulator.specs.declared.events.StepFault.TheVariants.{NotNow, NoUnits, NotAdmissible, LinkBroken}
use Rattle.day_simulator.specs.declared.events.StepFault.TheVariants.{NotInYard}
use Rattle.day_simulator.specs.State.{State, location_of, stage_of, is_waiting, is_under_way, has_arrived, is_ready}
use Rattle.day_simulator.specs.State.{moment_of, put_all}

-- an event may be made now: its moment has not passed, and its trip, with the trips that it waits for, has come so far
unfoldable pub is_now : Day → State → DayEvent → Bool
is_now day state (Depart t) = nat_le state.moment (moment_of day (Depart t)) && is_waiting (stage_of state.stages t)
    && list_all (λ a. has_arrived (stage_of state.stages a)) (trips_into day t)
is_now day state (Arrive t) = nat_le state.moment (moment_of day (Arrive t)) && is_under_way (stage_of state.stages t)

-- a join is tested where its trip leaves, a turn and a split where their trip arrives
abbrev pub is_tested_at : Bool → LinkKind → Bool
is_tested_at departure (Turn a b uncouple couple exchange) = not departure
is_tested_at departure (Join a1 a2 b) = departure
is_tested_at departure (Split a b1 b2) = not departure

-- the number of a link, where its rule is tested here and is broken
abbrev pub broken : Day → List (List ℕ) → Bool → Option ℕ → Option ℕ
broken day plan departure number = option_and_then (λ l. option_and_then
    (λ link. if is_tested_at departure link.kind && not (link_holds (type_of day) link plan) then Some l else None)
    (slice_get day.links l)) number

unfoldable pub broken_into : Day → List (List ℕ) → ℕ → Option ℕ
broken_into day plan t = broken day plan true (incoming day t)

unfoldable pub broken_out : Day → List (List ℕ) → ℕ → Option ℕ
broken_out day plan t = broken day plan false (outgoing day t)

-- the first of these units that is not in the yard and ready, where a trip takes them one by one
abbrev pub first_missing : Day → ℕ → List UnitLocation → List ℕ → Option ℕ
first_missing day t locations [] = None
first_missing day t locations (u ∷ us) =
    if is_ready (from_of day t) (leaves day t) (location_of locations u)
    then first_missing day t (slice_set locations u (Aboard t)) us
    else Some u

-- the first fault of the train that a trip leaves with, if it has one
abbrev pub train_fault : Day → List (List ℕ) → List UnitLocation → ℕ → Option StepFault
train_fault day plan locations t =
    if length (list_of plan t) == 0 then Some (NoUnits t)
    else if not (is_admissible day t (types_of day (list_of plan t))) then Some (NotAdmissible t)
    else unwrap_or (option_map (λ l. Some (LinkBroken l)) (broken_into day plan t))
    (option_map (λ u. NotInYard u t) (first_missing day t locations (taken day plan t)))

-- the first fault of an event, if it has one
unfoldable pub fault_of : Day → List (List ℕ) → State → DayEvent → Option StepFault
fault_of day plan state (Depart t) =
    if not (is_now day state (Depart t)) then Some (NotNow (Depart t))
    else train_fault day plan state.locations t
fault_of day plan state (Arrive t) =
    if not (is_now day state (Arrive t)) then Some (NotNow (Arrive t))
    else option_map (λ l. LinkBroken l) (broken_out day plan t)

-- the state after an event: a trip that leaves has its units aboard; one that arrives gives what no link keeps to the
-- yard, ready once the reallocation time is over, and the others stand in its train
unfoldable pub after : Day → List (List ℕ) → State → DayEvent → State
after day plan state (Depart t) = record {
  locations = put_all state.locations (list_of plan t) (Aboard t);
  stages = slice_set state.stages t stage.UnderWay;
  moment = moment_of day (Depart t);
}
after day plan state (Arrive t) = record {
  locations = put_all (put_all state.locations (list_of plan t) (Standing t)) (given day plan t)
      (Yard (to_of day t) (ready_at day t));
  stages = slice_set state.stages t stage.Arrived;
  moment = moment_of day (Arrive t);
}

abbrev pub unless_fault : Option StepFault → Result State StepFault → Result State StepFault
unless_fault None rest = rest
unless_fault (Some fault) rest = Err fault

-- the state after these events, one after another, or the first fault
abbrev pub steps : Day → List (List ℕ) → State → List DayEvent → Result State StepFault
steps day plan state [] = Ok state
steps day plan state (event ∷ events) =
    unless_fault (fault_of day plan state event) (steps day plan (after day plan state event) events)

-- the events of a day in the fixed order: by minute, arrivals before departures, and then by trip number
abbrev pub insert_event : Day → DayEvent → List DayEvent → List DayEvent
insert_event day e [] = e ∷ []
insert_event day e (f ∷ fs) =
    if nat_le (moment_of day e) (moment_of day f) then e ∷ f ∷ fs else f ∷ insert_event day e fs

abbrev pub sorted_events : Day → List DayEvent → List DayEvent
sorted_events day [] = []
sorted_events day (e ∷ es) = insert_event day e (sorted_events day es)

abbrev pub events_by_trip : List ℕ → List DayEvent
events_by_trip [] = []
events_by_trip (t ∷ ts) = Arrive t ∷ Depart t ∷ events_by_trip ts

unfoldable pub fixed_order : Day → List DayEvent
fixed_order day = sorted_events day (events_by_trip (below (length day.trips)))
