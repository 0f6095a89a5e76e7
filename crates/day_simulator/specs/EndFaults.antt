-- What is wrong with the end of a day: the first event that was not made, or else the first yard that has not as many
-- units as are wanted.
use Rattle.std.specs.Prelude.{ℕ, ◌≡◌, ◌≢◌, ◌<◌, ◌↔◌, ◌⊎◌, List, length, Ok, Err}
use Rattle.timetable.specs.Cost.{plan_cost}
use Rattle.timetable.specs.Day.{Day, leaves, arrives, wanted_of}
use Rattle.day_simulator.specs.declared.events.DayEvent.{DayEvent}
use Rattle.day_simulator.specs.declared.events.DayEvent.TheVariants.{Depart, Arrive}
use Rattle.day_simulator.specs.declared.events.Stage.TheVariants as stage
use Rattle.day_simulator.specs.declared.events.StepFault.{StepFault}
use Rattle.day_simulator.specs.declared.events.StepFault.TheVariants.{NotNow, Balance}
use Rattle.day_simulator.specs.State.{State, stage_of, trip_of}
use Rattle.day_simulator.specs.Finish.{yard_count, finish_of}

-- ---- events

-- the trip of a departure waits no more, that of an arrival has arrived
abbrev pub WasMade : State → DayEvent → Type 0
WasMade state (Depart t) = stage_of state.stages t ≢ stage.Waiting
WasMade state (Arrive t) = stage_of state.stages t ≡ stage.Arrived

-- the minute at which the trip of an event leaves or arrives
abbrev pub minute_of : Day → DayEvent → ℕ
minute_of day (Depart t) = leaves day t
minute_of day (Arrive t) = arrives day t

-- of two events of one minute this one comes before that one: an arrival before a departure, and of two of a kind that
-- of the smaller trip number
abbrev pub ComesBeforeInMinute : DayEvent → DayEvent → Type 0
ComesBeforeInMinute (Arrive s) (Depart t) = Unit {0}
ComesBeforeInMinute (Depart s) (Arrive t) = ⊥
ComesBeforeInMinute (Arrive s) (Arrive t) = s < t
ComesBeforeInMinute (Depart s) (Depart t) = s < t

-- one event comes before another: by minute, in a minute arrivals before departures, and then by trip number
abbrev pub ComesBefore : Day → DayEvent → DayEvent → Type 0
ComesBefore day e f =
    (minute_of day e < minute_of day f) ⊎ ((minute_of day e ≡ minute_of day f) × ComesBeforeInMinute e f)

abbrev pub AllWereMade : Day → State → Type 0
AllWereMade day state = (event : DayEvent) → trip_of event < length day.trips → WasMade state event

-- The event of a trip of the day was not made, and those that come before it were.
pub record IsFirstUnmade (day : Day) (state : State) (event : DayEvent) : Type 0 where
  pub known : trip_of event < length day.trips
  pub unmade : ¬ WasMade state event
  pub before : (other : DayEvent) → trip_of other < length day.trips → ComesBefore day other event → WasMade state other

-- ---- yards

-- a station has as many units of a type as are wanted
abbrev pub IsAsWanted : Day → State → ℕ → ℕ → Type 0
IsAsWanted day state s m = yard_count day state s m ≡ wanted_of day s m

abbrev pub AllAsWanted : Day → State → Type 0
AllAsWanted day state = (s m : ℕ) → s < length day.stations → m < length day.types → IsAsWanted day state s m

-- The station has so many units of the type, and another number is wanted. Of the types before it the station has as
-- many as are wanted, and so have the stations before it of every type.
pub record IsFirstDiffering (day : Day) (state : State) (station unit_type count wanted : ℕ) : Type 0 where
  pub known_station : station < length day.stations
  pub known_type : unit_type < length day.types
  pub count_is : count ≡ yard_count day state station unit_type
  pub wanted_is : wanted ≡ wanted_of day station unit_type
  pub differs : count ≢ wanted
  pub types_before : (m : ℕ) → m < unit_type → IsAsWanted day state station m
  pub stations_before : (s m : ℕ) → s < station → m < length day.types → IsAsWanted day state s m

-- ---- the end

-- the fault is the first at the end of the day: the balance counts once all events were made
abbrev pub IsEndFault : Day → State → StepFault → Type 0
IsEndFault day state (NotNow event) = IsFirstUnmade day state event
IsEndFault day state (Balance station unit_type count wanted) =
    AllWereMade day state × IsFirstDiffering day state station unit_type count wanted
IsEndFault day state _ = ⊥

-- What is told at the end of a day, in any state, is its first fault, or what the plan costs where all events were made
-- and each yard has as many units as are wanted. A day that is stepped has a place for each unit and a stage for each
-- trip; in other states a trip without a stage counts as arrived, and a unit without a place as one of the first yard.
pub record EndsAreTold : Type 0 where
  pub fault : (day : Day) (plan : List (List ℕ)) (state : State) (fault : StepFault)
      → (finish_of day plan state ≡ Err fault) ↔ IsEndFault day state fault
  pub cost : (day : Day) (plan : List (List ℕ)) (state : State) (cost : ℕ)
      → (finish_of day plan state ≡ Ok cost)
      ↔ (AllWereMade day state × AllAsWanted day state × (cost ≡ plan_cost day plan))
