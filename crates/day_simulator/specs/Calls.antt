-- What the calls of a day tell: a step, the end of the day, and the whole day.
use Rattle.std.specs.Prelude.{ℕ, ◌≡◌, List, Result, Ok, Err, MatchOption, MatchResult, IsOkAnd, pos}
use Rattle.timetable.specs.Day.{Day}
use Rattle.day_simulator.specs.declared.events.DayEvent.{DayEvent}
use Rattle.day_simulator.specs.declared.events.StepFault.{StepFault}
use Rattle.rail_base.specs.declared.numbers.Money.{Money}
use Rattle.day_simulator.specs.declared.whole_day.Ran.{Ran}
use Rattle.day_simulator.specs.declared.whole_day.SimulateRefusal.{SimulateRefusal}
use Rattle.day_simulator.specs.declared.whole_day.SimulateRefusal.TheVariants.{Stops, NoMemory}
use Rattle.day_simulator.specs.Finish.{finish_of, simulation}
use Rattle.day_simulator.specs.Machine.{Machine}
use Rattle.day_simulator.specs.Steps.{fault_of, after, steps}

-- one step: it goes through to the state after the event, or it tells the first fault and all is as before
abbrev pub MakesStep : Machine → DayEvent → Result (Unit {0}) StepFault → Machine → Type 0
MakesStep old event result new = MatchOption (fault_of old.day old.plan old.state event)
    ((result ≡ Ok tt) × (new ≡ record old { state = after old.day old.plan old.state event }))
    (λ fault. (result ≡ Err fault) × (new ≡ old))

-- an amount of money is this cost
abbrev pub IsCost : ℕ → Money → Type 0
IsCost cost money = money.0 ≡ pos cost

-- the end of the day: it tells the cost where all is as it should be, and else the first fault
abbrev pub Finishes : Machine → Result Money StepFault → Type 0
Finishes now result =
    MatchResult (finish_of now.day now.plan now.state)
    (λ cost. IsOkAnd result (λ money. IsCost cost money))
    (λ fault. result ≡ Err fault)

-- steps one after another: all go through, or the first fault is told
abbrev pub MakesSteps : Machine → List DayEvent → Result (Unit {0}) StepFault → Machine → Type 0
MakesSteps old events result new = MatchResult (steps old.day old.plan old.state events)
    (λ state. (result ≡ Ok tt) × (new ≡ record old { state = state }))
    (λ fault. result ≡ Err fault)

-- what a whole day tells, unless memory ran out: its cost, or the first fault
abbrev pub Simulates : Day → List (List ℕ) → Result Ran SimulateRefusal → Type 0
Simulates day plan (Ok ran) = (cost : ℕ) × (simulation day plan ≡ Ok cost) × IsCost cost ran.cost
Simulates day plan (Err (Stops fault)) = simulation day plan ≡ Err fault
Simulates day plan (Err NoMemory) = Unit {0}
