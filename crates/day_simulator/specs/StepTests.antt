-- The tests that an event undergoes, in their order. Its fault is that of the first that fails.
use Rattle.std.specs.Prelude.{ℕ, ◌≡◌, ◌<◌, ◌≤◌, ◌/◌, ◌%◌, ◌↔◌, ◌⊎◌, List, [], ◌∷◌, ◌++◌, length, map, take}
use Rattle.std.specs.Prelude.{false, IsTrue, Option, Some, None, get_or, slice_get}
use Rattle.rules.specs.declared.records.Link.{Link}
use Rattle.rules.specs.declared.records.LinkKind.{LinkKind}
use Rattle.rules.specs.declared.records.LinkKind.TheVariants.{Turn, Join, Split}
use Rattle.timetable.specs.Admissible.{is_admissible}
use Rattle.timetable.specs.Day.{Day, leaves, arrives, from_of, type_of, types_of, unit_count}
use Rattle.timetable.specs.Links.{list_of, incoming, outgoing, link_into, link_holds, arriving_in, taken}
use Rattle.timetable.specs.Lists.{has, below}
use Rattle.timetable.specs.Running.{IsPlan}
use Rattle.timetable.specs.Tests.{Test, ◌when◌, NoneFailed, IsFirstFailed}
use Rattle.day_simulator.specs.declared.events.DayEvent.{DayEvent}
use Rattle.day_simulator.specs.declared.events.DayEvent.TheVariants.{Depart, Arrive}
use Rattle.day_simulator.specs.declared.events.UnitLocation.TheVariants.{Yard}
use Rattle.day_simulator.specs.declared.events.Stage.TheVariants as stage
use Rattle.day_simulator.specs.declared.events.StepFault.{StepFault}
use Rattle.day_simulator.specs.declared.events.StepFault.TheVariants.{NotNow, NoUnits, NotAdmissible, LinkBroken}
use Rattle.day_simulator.specs.declared.events.StepFault.TheVariants.{NotInYard}
use Rattle.day_simulator.specs.State.{State, location_of, stage_of, trip_of}
use Rattle.day_simulator.specs.Steps.{fault_of}

-- ---- that an event comes now

-- the minute of the last event that was made, and 0 where none was
abbrev pub last_minute : State → ℕ
last_minute state = state.moment / 2

-- a departure was made in that minute
abbrev pub DepartedInLastMinute : State → Type 0
DepartedInLastMinute state = state.moment % 2 ≡ 1

-- The trip may leave now: no event of a later minute was made, the trip has not left, and those that arrive for the
-- link into it have arrived.
pub record MayLeave (day : Day) (state : State) (t : ℕ) : Type 0 where
  pub in_time : last_minute state ≤ leaves day t
  pub waits : stage_of state.stages t ≡ stage.Waiting
  pub arrived : (link : Link) (a : ℕ) → link_into day t ≡ Some link → IsTrue (has a (arriving_in link.kind))
      → stage_of state.stages a ≡ stage.Arrived

-- The trip may arrive now: no event of a later minute was made, and no departure in the same minute; and the trip is
-- under way.
pub record MayArrive (day : Day) (state : State) (t : ℕ) : Type 0 where
  pub in_time : (last_minute state < arrives day t)
      ⊎ ((last_minute state ≡ arrives day t) × (¬ DepartedInLastMinute state))
  pub under_way : stage_of state.stages t ≡ stage.UnderWay

-- ---- that the rule of a link holds

abbrev pub IsJoin : LinkKind → Type 0
IsJoin (Turn a b uncouple couple exchange) = ⊥
IsJoin (Join a1 a2 b) = Unit {0}
IsJoin (Split a b1 b2) = ⊥

abbrev pub IsTurnOrSplit : LinkKind → Type 0
IsTurnOrSplit (Turn a b uncouple couple exchange) = Unit {0}
IsTurnOrSplit (Join a1 a2 b) = ⊥
IsTurnOrSplit (Split a b1 b2) = Unit {0}

-- the link of this number is of such a kind, and the plan breaks its rule
pub record BreaksRule (day : Day) (plan : List (List ℕ)) (OfKind : LinkKind → Type 0) (l : ℕ) : Type 0 where
  pub link : Link
  pub is : slice_get day.links l ≡ Some link
  pub kind : OfKind link.kind
  pub broken : link_holds (type_of day) link plan ≡ false

-- the test of a link, where there is one
abbrev pub rule_tests : (ℕ → Type 0) → Option ℕ → List (Test StepFault)
rule_tests Breaks None = []
rule_tests Breaks (Some l) = LinkBroken l when Breaks l ∷ []

-- ---- that units can be taken

-- the unit stands in the yard of the station that the trip leaves, and is ready when it leaves
pub record StandsReady (day : Day) (state : State) (t u : ℕ) : Type 0 where
  pub ready : ℕ
  pub yard : location_of state.locations u ≡ Yard (from_of day t) ready
  pub in_time : ready ≤ leaves day t

-- Of the units that a trip takes, front to rear, the one at a place cannot be taken: it does not stand ready, or it is
-- one of those at the places before.
abbrev pub CannotBeTaken : Day → State → ℕ → List ℕ → ℕ → Type 0
CannotBeTaken day state t us k = (¬ StandsReady day state t (get_or us k 0)) ⊎ IsTrue (has (get_or us k 0) (take k us))

-- One test for each place of these units, so that the first that fails is that of the first unit that cannot be taken.
abbrev pub unit_tests : Day → State → ℕ → List ℕ → List (Test StepFault)
unit_tests day state t us =
    map (λ k. NotInYard (get_or us k 0) t when CannotBeTaken day state t us k) (below (length us))

-- ---- the tests of an event

-- A trip that leaves is tested for its moment, its units, their types, the join into it, and the units that it takes
-- from the yard; one that arrives is tested for its moment, and for the turn or split on from it.
abbrev pub step_tests : Day → List (List ℕ) → State → DayEvent → List (Test StepFault)
step_tests day plan state (Depart t) =
    NotNow (Depart t) when (¬ MayLeave day state t)
    ∷ NoUnits t when (list_of plan t ≡ [])
    ∷ NotAdmissible t when (is_admissible day t (types_of day (list_of plan t)) ≡ false)
    ∷ (rule_tests (BreaksRule day plan IsJoin) (incoming day t) ++ unit_tests day state t (taken day plan t))
step_tests day plan state (Arrive t) =
    NotNow (Arrive t) when (¬ MayArrive day state t)
    ∷ rule_tests (BreaksRule day plan IsTurnOrSplit) (outgoing day t)

-- the fault is that of the first of these tests that failed, and there is none exactly where none failed
pub record IsToldBy {E : Type 0} (tests : List (Test E)) (fault : Option E) : Type 0 where
  pub none : (fault ≡ None) ↔ NoneFailed tests
  pub first : (told : E) → (fault ≡ Some told) ↔ IsFirstFailed tests told

-- The fault of an event of one of the day's trips is that of the first test that fails, where the plan is one of the
-- day and each unit has its place.
abbrev pub StepsAreTested : Type 0
StepsAreTested = (day : Day) (plan : List (List ℕ)) (state : State) (event : DayEvent)
    → IsPlan day plan → trip_of event < length day.trips → length state.locations ≡ unit_count day
    → IsToldBy (step_tests day plan state event) (fault_of day plan state event)
