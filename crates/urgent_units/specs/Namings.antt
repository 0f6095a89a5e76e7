-- Other namings of a plan, and how many urgent units they bring to the depot.
use Rattle.std.specs.Prelude.{ℕ, ◌≡◌, List, map, ◌==◌}
use Rattle.std.specs.List.{count_by}
use Rattle.timetable.specs.Day.{Day, types_of}
use Rattle.timetable.specs.Duties.{last_place}
use Rattle.timetable.specs.Running.{Runs}
use Rattle.urgent_units.specs.declared.wish.Wish.{Wish}

-- a plan that runs, and has the types of a plan on every trip
pub record IsNaming (day : Day) (plan other : List (List ℕ)) : Type 0 where
  pub runs : Runs day other
  pub types : map (types_of day) other ≡ map (types_of day) plan

-- how many urgent units have their last place at the depot
unfoldable pub brought : Day → Wish → List (List ℕ) → ℕ
brought day wish plan = count_by (λ u. last_place day plan u == wish.depot) wish.units
