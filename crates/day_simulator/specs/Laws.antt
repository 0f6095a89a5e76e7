-- The machine and the conditions on a plan say the same.
use Rattle.std.specs.Prelude.{ℕ, ◌≡◌, List, Ok, Err}
use Rattle.timetable.specs.Day.{Day}
use Rattle.timetable.specs.Accepted.{IsDay, AreLinks}
use Rattle.timetable.specs.Running.{IsPlan, Runs}
use Rattle.timetable.specs.Cost.{plan_cost}
use Rattle.day_simulator.specs.declared.events.DayEvent.{DayEvent}
use Rattle.day_simulator.specs.declared.events.StepFault.{StepFault}
use Rattle.day_simulator.specs.declared.events.StepFault.TheVariants.{NotNow}
use Rattle.day_simulator.specs.Finish.{simulation}
use Rattle.day_simulator.specs.Orders.{IsOrder, RisesByTrip, RunsInOrder}
use Rattle.day_simulator.specs.Steps.{fixed_order}

-- The fixed order is an order of the day. At each moment, its events come by rising trip number.
abbrev pub IsInFixedOrder : Type 0
IsInFixedOrder = (day : Day) → IsOrder day (fixed_order day) × RisesByTrip day (fixed_order day)

-- In every order of its events, the day goes through to its end exactly where the plan runs, and always ends alike.
abbrev pub InEveryOrder : Type 0
InEveryOrder = (day : Day) (plan : List (List ℕ)) (events : List DayEvent)
    → IsDay day → AreLinks day → IsPlan day plan → IsOrder day events
    → RunsInOrder day plan events

-- In the fixed order, the day goes through to its end exactly where the plan runs, and costs what the plan costs.
abbrev pub RunInFixedOrder : Type 0
RunInFixedOrder = (day : Day) (plan : List (List ℕ)) → IsDay day → AreLinks day → IsPlan day plan
    → (Runs day plan → simulation day plan ≡ Ok (plan_cost day plan))
    × ((cost : ℕ) → simulation day plan ≡ Ok cost → Runs day plan × (cost ≡ plan_cost day plan))

-- the fault is none of the turn of an event
abbrev pub IsInTurn : StepFault → Type 0
IsInTurn fault = (event : DayEvent) → ¬ (fault ≡ NotNow event)

-- In the fixed order no event is out of turn, and none is missing at the end, whatever the plan is.
abbrev pub InTurn : Type 0
InTurn = (day : Day) (plan : List (List ℕ)) → IsDay day → AreLinks day
    → (fault : StepFault) → simulation day plan ≡ Err fault → IsInTurn fault
