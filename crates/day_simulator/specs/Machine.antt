-- The day as a machine: the day, the plan that it follows, and the state that it has come to.
use Rattle.std.specs.Prelude.{ℕ, List}
use Rattle.timetable.specs.Day.{Day}
use Rattle.day_simulator.specs.State.{State}

pub record Machine : Type 0 where
  pub day : Day
  pub plan : List (List ℕ)
  pub state : State
