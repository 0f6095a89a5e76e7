-- A chosen fleet and its plan.
use Rattle.std.specs.Prelude.{ℕ, ◌≡◌, List, ℤ, pos, Option, Some}
use Rattle.timetable.specs.Day.{Day}
use Rattle.timetable.specs.Running.{Runs}
use Rattle.fleets.specs.Fleets.{IsFleetOf, with_fleet}
use Rattle.fleet_boxes.specs.ProvedBoxes.{price_of}
use Rattle.fleet_check.specs.declared.found.Chosen.{Chosen}

-- the stock is a fleet of the day, and the plan runs with it
pub record DoesRun (day : Day) (chosen : Chosen) : Type 0 where
  pub fleet : IsFleetOf day chosen.stock
  pub does_run : Runs (with_fleet chosen.stock day) chosen.plan

-- it runs, and this is what it costs with the units of its fleet
pub record RunsAtPrice (day : Day) (prices : List ℕ) (chosen : Option Chosen) (price : ℤ) : Type 0 where
  pub one : Chosen
  pub is : chosen ≡ Some one
  pub runs : DoesRun day one
  pub costs : price ≡ pos (price_of day prices one.stock one.plan)
