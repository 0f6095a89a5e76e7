-- Costs: for each trip and composition what the trip costs with it under changes, where it may run on the trip.
use Rattle.std.specs.Prelude.{ℕ, ◌≡◌, ◌<◌, List, length, if◌then◌else◌, Option, Some, None, int_lt, ℤ, pos}
use Rattle.timetable.specs.Admissible.{is_admissible}
use Rattle.timetable.specs.Compositions.{compositions_of, composition_at}
use Rattle.timetable.specs.Day.{Day}
use Rattle.price_bound.specs.declared.changes.Change.{Change}
use Rattle.price_bound.specs.CellSizes.{IsSmall, most_cost}
use Rattle.price_bound.specs.Changes.{changed_cost}
use Rattle.price_bound.specs.PriceTables.{HasSize, amount_at}

-- what a trip costs with a composition, and none where the composition may not run on it
abbrev pub admitted_cost : Day → List Change → ℕ → ℕ → Option ℤ
admitted_cost day changes t comp =
    if is_admissible day t (composition_at day comp) then Some (pos (changed_cost day changes t comp)) else None

-- the cost that an amount of a table stands for: none where it is below 0
abbrev pub cost_in : ℤ → Option ℤ
cost_in amount = if int_lt amount (pos 0) then None else Some amount

-- an amount stands for the cost of a trip with a composition
pub record IsCostOf (day : Day) (changes : List Change) (t comp : ℕ) (amount : ℤ) : Type 0 where
  pub is : cost_in amount ≡ admitted_cost day changes t comp
  pub small : IsSmall most_cost amount

-- a table has the costs of a trip, in the columns below a number
abbrev pub AreCostsIn : Day → List Change → ℕ → ℕ → List (List ℤ) → Type 0
AreCostsIn day changes t comps table = (comp : ℕ) → comp < comps → IsCostOf day changes t comp (amount_at table t comp)

-- it has them in the rows below a number
abbrev pub AreCostsBelow : Day → List Change → ℕ → List (List ℤ) → Type 0
AreCostsBelow day changes trips table = (t : ℕ) → t < trips
    → AreCostsIn day changes t (length (compositions_of day)) table

-- the costs of a day under changes
pub record AreCosts (day : Day) (changes : List Change) (table : List (List ℤ)) : Type 0 where
  pub sized : HasSize (length day.trips) (length (compositions_of day)) table
  pub costs : AreCostsBelow day changes (length day.trips) table
