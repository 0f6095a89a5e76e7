-- What an event changes: where the units of its trip are, and how far the trip has come.
use Rattle.std.specs.Prelude.{ℕ, ◌≡◌, ◌≢◌, ◌<◌, List, length, false, IsTrue}
use Rattle.timetable.specs.Day.{Day, leaves, arrives, to_of, ready_at, unit_count}
use Rattle.timetable.specs.Links.{list_of, given}
use Rattle.timetable.specs.Lists.{has}
use Rattle.timetable.specs.Running.{IsPlan}
use Rattle.day_simulator.specs.declared.events.DayEvent.{DayEvent}
use Rattle.day_simulator.specs.declared.events.DayEvent.TheVariants.{Depart, Arrive}
use Rattle.day_simulator.specs.declared.events.UnitLocation.TheVariants.{Yard, Aboard, Standing}
use Rattle.day_simulator.specs.declared.events.Stage.TheVariants as stage
use Rattle.day_simulator.specs.State.{State, location_of, stage_of, trip_of}
use Rattle.day_simulator.specs.Steps.{after}
use Rattle.day_simulator.specs.StepTests.{last_minute, DepartedInLastMinute}

-- From one state to the next the trip leaves: the units of its list are aboard, the trip is under way, and all other
-- units and trips are as they were. There are as many places as units and as many stages as trips. The last minute is
-- that of the departure, and a trip departed in it.
pub record Leaves (day : Day) (plan : List (List ℕ)) (before next : State) (t : ℕ) : Type 0 where
  pub listed : (u : ℕ) → IsTrue (has u (list_of plan t)) → location_of next.locations u ≡ Aboard t
  pub other_units : (u : ℕ) → u < unit_count day → has u (list_of plan t) ≡ false
      → location_of next.locations u ≡ location_of before.locations u
  pub trip : stage_of next.stages t ≡ stage.UnderWay
  pub other_trips : (s : ℕ) → s ≢ t → stage_of next.stages s ≡ stage_of before.stages s
  pub locations : length next.locations ≡ unit_count day
  pub stages : length next.stages ≡ length day.trips
  pub minute : last_minute next ≡ leaves day t
  pub event : DepartedInLastMinute next

-- From one state to the next the trip arrives: the units that it gives stand in the yard of the station that it comes
-- to, ready once the reallocation time is over; the other units of its list stand in its train; the trip has arrived;
-- and all other units and trips are as they were. There are as many places as units and as many stages as trips. The
-- last minute is that of the arrival, and it counts as one in which no trip departed.
pub record Arrives (day : Day) (plan : List (List ℕ)) (before next : State) (t : ℕ) : Type 0 where
  pub in_yard : (u : ℕ) → IsTrue (has u (given day plan t))
      → location_of next.locations u ≡ Yard (to_of day t) (ready_at day t)
  pub in_train : (u : ℕ) → IsTrue (has u (list_of plan t)) → has u (given day plan t) ≡ false
      → location_of next.locations u ≡ Standing t
  pub other_units : (u : ℕ) → u < unit_count day → has u (list_of plan t) ≡ false → has u (given day plan t) ≡ false
      → location_of next.locations u ≡ location_of before.locations u
  pub trip : stage_of next.stages t ≡ stage.Arrived
  pub other_trips : (s : ℕ) → s ≢ t → stage_of next.stages s ≡ stage_of before.stages s
  pub locations : length next.locations ≡ unit_count day
  pub stages : length next.stages ≡ length day.trips
  pub minute : last_minute next ≡ arrives day t
  pub event : ¬ DepartedInLastMinute next

abbrev pub DoesChange : Day → List (List ℕ) → State → State → DayEvent → Type 0
DoesChange day plan before next (Depart t) = Leaves day plan before next t
DoesChange day plan before next (Arrive t) = Arrives day plan before next t

-- The state after an event of one of the day's trips is changed so, where the plan is one of the day, and each unit has
-- its place and each trip its stage.
abbrev pub StepsChangeStates : Type 0
StepsChangeStates = (day : Day) (plan : List (List ℕ)) (state : State) (event : DayEvent)
    → IsPlan day plan → trip_of event < length day.trips
    → length state.locations ≡ unit_count day → length state.stages ≡ length day.trips
    → DoesChange day plan state (after day plan state event) event
