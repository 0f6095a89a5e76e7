-- Where the yards serve compositions, naming units by the rule gives a plan that runs.
use Rattle.std.specs.Prelude.{ℕ, ◌≡◌, ◌<◌, List, length, map, Option, true, ◌≤◌}
use Rattle.timetable.specs.Accepted.{IsDay, AreUnitsOf, AreLinks, IsStocked}
use Rattle.timetable.specs.Day.{Day, Units, leaves, type_of, types_of, unit_count, stock_units}
use Rattle.timetable.specs.Links.{list_of}
use Rattle.timetable.specs.Lists.{count_of}
use Rattle.timetable.specs.Renumbering.{renumbered, kth_number}
use Rattle.timetable.specs.Running.{RunsOf, Runs}
use Rattle.inventory.specs.Counts.{AreServed}
use Rattle.inventory.specs.NamedBefore.{IsNamedBefore, IsFrozen}
use Rattle.inventory.specs.NamedUnits.{InYard, may_be_taken, ready_since, next_unit, named_from, named_plan}
use Rattle.inventory.specs.ServingLaws.{StandAtStart}

-- the plan runs with these units, and its trips have these types
pub record RunsWithUnits (units : Units) (day : Day) (types plan : List (List ℕ)) : Type 0 where
  pub runs : RunsOf units day plan
  pub types_are : map (map units.unit_type) plan ≡ types

-- it runs with the units of the stock
abbrev pub RunsWith : Day → List (List ℕ) → List (List ℕ) → Type 0
RunsWith day = RunsWithUnits (stock_units day) day

-- the same, and the trips that leave before a minute have the lists of another plan
pub record RunsOn (day : Day) (types : List (List ℕ)) (minute : ℕ) (earlier plan : List (List ℕ)) : Type 0 where
  pub runs : Runs day plan
  pub types_are : map (types_of day) plan ≡ types
  pub agrees : (t : ℕ) → t < length day.trips → leaves day t < minute → list_of plan t ≡ list_of earlier t

abbrev pub NamedPlansRun : Type 0
NamedPlansRun = (day : Day) (types : List (List ℕ)) (minute : ℕ) (plan : List (List ℕ))
    → IsDay day → AreLinks day → IsStocked day → AreServed day types
    → IsNamedBefore day types minute plan → RunsOn day types minute plan (named_from day types minute plan)

abbrev pub ServedPlansRun : Type 0
ServedPlansRun = (day : Day) (types : List (List ℕ)) → IsDay day → AreLinks day → IsStocked day → AreServed day types
    → RunsWith day types (named_plan day types)

-- the same of any units of which as many, of each type, stand at each station as the stock rows say: the k-th unit of
-- the stock, of a type at a station, is the k-th of these
abbrev pub ServedPlansRunWithUnits : Type 0
ServedPlansRunWithUnits = (units : Units) (day : Day) (types : List (List ℕ))
    → IsDay day → AreLinks day → IsStocked day → AreUnitsOf units day → StandAtStart units day → AreServed day types
    → RunsWithUnits units day types (renumbered (kth_number (stock_units day) units) (named_plan day types))

-- of a plan that runs, the trips that leave before a minute are named as it is asked of them
abbrev pub RunningPlansAreNamed : Type 0
RunningPlansAreNamed = (day : Day) (plan : List (List ℕ)) (minute : ℕ) → AreLinks day → Runs day plan
    → IsNamedBefore day (map (types_of day) plan) minute plan

-- what is named before a minute with some types is named so with others that are the same on each frozen trip
abbrev pub NamesStay : Type 0
NamesStay = (day : Day) (some types : List (List ℕ)) (minute : ℕ) (plan : List (List ℕ)) → IsDay day → AreLinks day
    → ((t : ℕ) → t < length day.trips → IsFrozen day minute t → list_of types t ≡ list_of some t)
    → IsNamedBefore day some minute plan → IsNamedBefore day types minute plan

-- so the trips of a plan that runs which leave before a minute are named with types that are the plan's on each frozen
-- trip
abbrev pub PlansNameTheirPast : Type 0
PlansNameTheirPast = (day : Day) (plan types : List (List ℕ)) (minute : ℕ) → IsDay day → AreLinks day
    → ((t : ℕ) → t < length day.trips → IsFrozen day minute t → list_of types t ≡ types_of day (list_of plan t))
    → Runs day plan → IsNamedBefore day types minute plan

-- a unit of a type that may be taken at a station at a minute, where some were taken already
pub record IsAvailable (day : Day) (stands : ℕ → Option InYard) (s minute : ℕ) (chosen : List ℕ) (m u : ℕ)
    : Type 0 where
  pub there : may_be_taken s minute (stands u) ≡ true
  pub type_is : type_of day u ≡ m
  pub new : count_of u chosen ≡ 0

-- the available unit that was ready earliest, and of those the one with the smallest number
pub record IsNextUnit (day : Day) (stands : ℕ → Option InYard) (s minute : ℕ) (chosen : List ℕ) (m u : ℕ)
    : Type 0 where
  pub known : u < unit_count day
  pub available : IsAvailable day stands s minute chosen m u
  pub earliest : (v : ℕ) → v < unit_count day → IsAvailable day stands s minute chosen m v
      → ready_since (stands u) ≤ ready_since (stands v)
  pub smallest : (v : ℕ) → v < unit_count day → IsAvailable day stands s minute chosen m v
      → ready_since (stands v) ≡ ready_since (stands u) → u ≤ v

-- where a unit is available, the one that is taken is that one
abbrev pub UnitsAreTakenInTurn : Type 0
UnitsAreTakenInTurn = (day : Day) (stands : ℕ → Option InYard) (s minute : ℕ) (chosen : List ℕ) (m v : ℕ)
    → v < unit_count day → IsAvailable day stands s minute chosen m v
    → IsNextUnit day stands s minute chosen m (next_unit day stands s minute chosen m)
