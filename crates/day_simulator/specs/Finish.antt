-- The end of the day: what it costs, the first event that is missing, or the first count that differs from what is
-- wanted.
use Rattle.std.specs.Prelude.{ℕ, List, [], ◌∷◌, Bool, ◌==◌, ◌&&◌, not, if◌then◌else◌, Option, Some, None, length}
use Rattle.std.specs.Prelude.{Result, Ok, Err}
use Rattle.timetable.specs.Day.{Day, type_of, unit_count, wanted_of}
use Rattle.timetable.specs.Cost.{plan_cost}
use Rattle.timetable.specs.Lists.{below, count_below}
use Rattle.day_simulator.specs.declared.events.DayEvent.{DayEvent}
use Rattle.day_simulator.specs.declared.events.DayEvent.TheVariants.{Depart, Arrive}
use Rattle.day_simulator.specs.declared.events.StepFault.{StepFault}
use Rattle.day_simulator.specs.declared.events.StepFault.TheVariants.{NotNow, Balance}
use Rattle.day_simulator.specs.State.{State, first_state, location_of, stage_of, is_waiting, has_arrived, is_in_yard}
use Rattle.day_simulator.specs.Steps.{steps, fixed_order}

abbrev pub is_made : State → DayEvent → Bool
is_made state (Depart t) = not (is_waiting (stage_of state.stages t))
is_made state (Arrive t) = has_arrived (stage_of state.stages t)

abbrev pub first_not_made : State → List DayEvent → Option DayEvent
first_not_made state [] = None
first_not_made state (e ∷ es) = if is_made state e then first_not_made state es else Some e

-- how many units of a type stand in the yard of a station
unfoldable pub yard_count : Day → State → ℕ → ℕ → ℕ
yard_count day state s m =
    count_below (λ u. is_in_yard s (location_of state.locations u) && (type_of day u == m)) (unit_count day)

-- the first type whose count at a station differs, as a fault
abbrev pub first_differing_type : Day → State → ℕ → List ℕ → Option StepFault
first_differing_type day state s [] = None
first_differing_type day state s (m ∷ ms) =
    if yard_count day state s m == wanted_of day s m
    then first_differing_type day state s ms
    else Some (Balance s m (yard_count day state s m) (wanted_of day s m))

abbrev pub or_else : Option StepFault → Option StepFault → Option StepFault
or_else None rest = rest
or_else (Some fault) rest = Some fault

abbrev pub first_differing : Day → State → List ℕ → Option StepFault
first_differing day state [] = None
first_differing day state (s ∷ ss) =
    or_else (first_differing_type day state s (below (length day.types))) (first_differing day state ss)

abbrev pub ended : Option DayEvent → Option StepFault → ℕ → Result ℕ StepFault
ended (Some event) fault cost = Err (NotNow event)
ended None (Some fault) cost = Err fault
ended None None cost = Ok cost

-- the cost of a day that has come to its end, or what is wrong with its end
unfoldable pub finish_of : Day → List (List ℕ) → State → Result ℕ StepFault
finish_of day plan state =
    ended (first_not_made state (fixed_order day)) (first_differing day state (below (length day.stations)))
    (plan_cost day plan)

abbrev pub finish_after : Day → List (List ℕ) → Result State StepFault → Result ℕ StepFault
finish_after day plan (Err fault) = Err fault
finish_after day plan (Ok state) = finish_of day plan state

-- the whole day in the fixed order: its cost, or the first fault
unfoldable pub simulation : Day → List (List ℕ) → Result ℕ StepFault
simulation day plan = finish_after day plan (steps day plan (first_state day) (fixed_order day))
