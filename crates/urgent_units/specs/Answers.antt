-- What is promised of an answer to a wish.
use Rattle.std.specs.Prelude.{ℕ, ◌≡◌, ◌≤◌, List, map, Result, Ok, Err, Some}
use Rattle.day_simulator.specs.Finish.{simulation}
use Rattle.timetable.specs.Day.{Day, types_of}
use Rattle.timetable.specs.Running.{Runs}
use Rattle.urgent_units.specs.declared.refusal.UrgentRefusal.{UrgentRefusal}
use Rattle.urgent_units.specs.declared.refusal.UrgentRefusal.TheVariants.{Stops, NoMemory}
use Rattle.urgent_units.specs.declared.best_naming.Swapped.{Swapped}
use Rattle.urgent_units.specs.declared.wish.Wish.{Wish}
use Rattle.urgent_units.specs.Cuts.{HasMoments, value_of}
use Rattle.urgent_units.specs.Legs.{legs_of}
use Rattle.urgent_units.specs.Namings.{IsNaming, brought}

-- The swapped plan brings as many urgent units to the depot as can be.
pub record BringsMost (day : Day) (plan : List (List ℕ)) (wish : Wish) (swapped : Swapped) : Type 0 where
  -- it runs
  pub runs : Runs day swapped.plan
  -- it has the types of the given plan on every trip
  pub types : map (types_of day) swapped.plan ≡ map (types_of day) plan
  -- so many urgent units have their last place at the depot
  pub brings : brought day wish swapped.plan ≡ swapped.count
  -- the cut tells of each moment of the given plan's legs
  pub moments : HasMoments (legs_of day plan wish.unit_type) swapped.cut
  -- and is worth as many
  pub cut : value_of day (legs_of day plan wish.unit_type) wish swapped.cut ≡ Some swapped.count
  -- and no plan that runs with these types brings more
  pub best : (other : List (List ℕ)) → IsNaming day plan other → brought day wish other ≤ swapped.count

-- a plan stops where its simulation does, with the same fault
abbrev pub StopsAsSimulated : Day → List (List ℕ) → Result Swapped UrgentRefusal → Type 0
StopsAsSimulated day plan (Ok swapped) = Runs day plan
StopsAsSimulated day plan (Err (Stops fault)) = simulation day plan ≡ Err fault
StopsAsSimulated day plan (Err NoMemory) = Unit {0}
