-- What a plan that runs asks of the yards, where it leaves its units, and at which minutes a yard may be short.
use Rattle.std.specs.Prelude.{ℕ, ◌+◌, ◌≡◌, ◌<◌, ◌≤◌, List, length, map}
use Rattle.std.specs.List.{Contains}
use Rattle.timetable.specs.Accepted.{IsTimetable, IsDay, AreUnitsOf, AreLinks, IsStocked}
use Rattle.timetable.specs.Day.{Day, Units, stock_units}
use Rattle.timetable.specs.Duties.{last_place_of}
use Rattle.timetable.specs.Minutes.{minutes_of}
use Rattle.timetable.specs.Renumbering.{standing_at}
use Rattle.timetable.specs.Running.{RunsOf, ending_of}
use Rattle.timetable.specs.Starts.{start_of}
use Rattle.inventory.specs.Counts.{AreServed, taken_until, ready_until}

-- the yards serve the compositions of the plan, if it runs with these units
abbrev pub IsServed : Units → Day → List (List ℕ) → Type 0
IsServed units day plan = RunsOf units day plan → AreServed day (map (map units.unit_type) plan)

abbrev pub PlansAreServed : Type 0
PlansAreServed = (day : Day) (plan : List (List ℕ)) → IsDay day → AreLinks day → IsStocked day
    → IsServed (stock_units day) day plan

-- as many of these units, of each type, stand at each station as the stock rows say for the start of the day
abbrev pub StandAtStart : Units → Day → Type 0
StandAtStart units day = (s m : ℕ) → s < length day.stations → m < length day.types
    → standing_at units s m ≡ start_of day s m

-- so it is with such units
abbrev pub PlansOfUnitsAreServed : Type 0
PlansOfUnitsAreServed = (units : Units) (day : Day) (plan : List (List ℕ)) → IsDay day → AreLinks day → IsStocked day
    → AreUnitsOf units day → StandAtStart units day → IsServed units day plan

-- the units as a plan leaves them: each stands where its duty ends, or where it stood if its duty is empty
abbrev pub units_after : Units → Day → List (List ℕ) → Units
units_after units day plan =
    record { count = units.count; unit_type = units.unit_type; home = last_place_of units day plan }

-- they are units of the day, and of each type as many stand at each station as end the day there
pub record LeavesUnits (units : Units) (day : Day) (plan : List (List ℕ)) : Type 0 where
  pub are_units : AreUnitsOf (units_after units day plan) day
  pub standing : (s m : ℕ) → standing_at (units_after units day plan) s m ≡ ending_of units day plan s m

abbrev pub UnitsAreLeft : Type 0
UnitsAreLeft = (units : Units) (day : Day) (plan : List (List ℕ))
    → IsTimetable day → AreUnitsOf units day → LeavesUnits units day plan

-- a station that is not short of a type at a minute at which a trip leaves it, is short of it at no minute
abbrev pub DeparturesAreEnough : Type 0
DeparturesAreEnough = (day : Day) (lists : List (List ℕ)) (s m : ℕ)
    → ((minute : ℕ) → Contains (minutes_of day s) minute
    → taken_until day lists s m minute ≤ start_of day s m + ready_until day lists s m minute)
    → (minute : ℕ) → taken_until day lists s m minute ≤ start_of day s m + ready_until day lists s m minute
