-- The orders in which a day's events may come, and how a day ends.
use Rattle.std.specs.Prelude.{ℕ, ◌+◌, ◌<◌, ◌≤◌, ◌≡◌, List, [], ◌∷◌, ◌==◌, if◌then◌else◌, length, Ok}
use Rattle.timetable.specs.Day.{Day, unit_count, ready_at}
use Rattle.timetable.specs.Duties.{duty, last_place}
use Rattle.timetable.specs.Running.{Runs}
use Rattle.timetable.specs.Cost.{plan_cost}
use Rattle.day_simulator.specs.declared.events.DayEvent.{DayEvent}
use Rattle.day_simulator.specs.declared.events.DayEvent.TheVariants.{Depart, Arrive}
use Rattle.day_simulator.specs.declared.events.UnitLocation.TheVariants.{Yard}
use Rattle.day_simulator.specs.State.{State, first_state, location_of, moment_of, trip_of}
use Rattle.day_simulator.specs.Steps.{steps}
use Rattle.day_simulator.specs.Finish.{finish_of}

-- how often a trip departs among events
abbrev pub departures : ℕ → List DayEvent → ℕ
departures t [] = 0
departures t (Depart s ∷ es) = (if s == t then 1 else 0) + departures t es
departures t (Arrive s ∷ es) = departures t es

-- how often a trip arrives
abbrev pub arrivals : ℕ → List DayEvent → ℕ
arrivals t [] = 0
arrivals t (Depart s ∷ es) = arrivals t es
arrivals t (Arrive s ∷ es) = (if s == t then 1 else 0) + arrivals t es

-- no event comes before a moment
abbrev pub AllFrom : Day → ℕ → List DayEvent → Type 0
AllFrom day m [] = Unit {0}
AllFrom day m (e ∷ es) = (m ≤ moment_of day e) × AllFrom day m es

-- the moments never fall
abbrev pub NeverFalls : Day → List DayEvent → Type 0
NeverFalls day [] = Unit {0}
NeverFalls day (e ∷ es) = AllFrom day (moment_of day e) es × NeverFalls day es

-- An order of the day: each trip departs once and arrives once, minutes never fall, and in each minute arrivals come
-- before departures. Events of one kind in one minute may come in any order.
pub record IsOrder (day : Day) (events : List DayEvent) : Type 0 where
  pub departs_once : (t : ℕ) → t < length day.trips → departures t events ≡ 1
  pub arrives_once : (t : ℕ) → t < length day.trips → arrivals t events ≡ 1
  pub none_departs_beyond : (t : ℕ) → length day.trips ≤ t → departures t events ≡ 0
  pub none_arrives_beyond : (t : ℕ) → length day.trips ≤ t → arrivals t events ≡ 0
  pub never_falls : NeverFalls day events

-- each of these events that comes at the moment of event e is of a later trip
abbrev pub LaterTrips : Day → DayEvent → List DayEvent → Type 0
LaterTrips day e [] = Unit {0}
LaterTrips day e (f ∷ fs) = (moment_of day f ≡ moment_of day e → trip_of e < trip_of f) × LaterTrips day e fs

-- at each moment the trips rise
abbrev pub RisesByTrip : Day → List DayEvent → Type 0
RisesByTrip day [] = Unit {0}
RisesByTrip day (e ∷ es) = LaterTrips day e es × RisesByTrip day es

-- when a unit is ready that was ready at a minute and then runs on these trips, the last of which gives it to the yard;
-- on from the others it may be kept in the train
abbrev pub ready_after : Day → ℕ → List ℕ → ℕ
ready_after day ready [] = ready
ready_after day ready (t ∷ ts) = ready_after day (ready_at day t) ts

-- from when on a unit is ready at the end of the day
unfoldable pub last_ready : Day → List (List ℕ) → ℕ → ℕ
last_ready day plan u = ready_after day 0 (duty day plan u)

-- these events all go through, each unit ends in the yard of its last place, and the day costs what the plan costs
pub record EndsAsPlanned (day : Day) (plan : List (List ℕ)) (events : List DayEvent) : Type 0 where
  pub final : State
  pub made : steps day plan (first_state day) events ≡ Ok final
  pub yards : (u : ℕ) → u < unit_count day
      → location_of final.locations u ≡ Yard (last_place day plan u) (last_ready day plan u)
  pub cost : finish_of day plan final ≡ Ok (plan_cost day plan)

-- the events go through to the end of the day exactly where the plan runs
pub record RunsInOrder (day : Day) (plan : List (List ℕ)) (events : List DayEvent) : Type 0 where
  pub ends : Runs day plan → EndsAsPlanned day plan events
  pub runs : (final : State) (cost : ℕ) → steps day plan (first_state day) events ≡ Ok final
      → finish_of day plan final ≡ Ok cost → Runs day plan
