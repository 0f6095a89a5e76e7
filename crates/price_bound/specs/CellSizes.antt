-- How large amounts are.
use Rattle.std.specs.Prelude.{ℕ, ◌+◌, ◌*◌, ◌^◌, List, get_or, Bool, true, false, Option, Some, None, ◌≡◌, ℤ, pos, neg_ℤ}
use Rattle.std.specs.Prelude.{◌≤ℤ◌}
use Rattle.rail_base.specs.declared.limits.TheConstants.{MAX_COMPOSITION_UNITS, MAX_ENTRIES, MAX_MULTIPLIER}
use Rattle.price_bound.specs.declared.cells.Cell.{Cell}

-- no larger than a bound, whatever the sign
pub record IsSmall (bound : ℕ) (x : ℤ) : Type 0 where
  pub above : neg_ℤ (pos bound) ≤ℤ x
  pub below : x ≤ℤ pos bound

-- the most that a sum of multipliers comes to, as the price of a unit is one; and the most that the units of a
-- composition are priced
abbrev pub most_price : ℕ
most_price = MAX_ENTRIES * MAX_MULTIPLIER

abbrev pub most_units_price : ℕ
most_units_price = MAX_COMPOSITION_UNITS * most_price

-- a number of units, or what a change costs: a number of 32 bits, and so no larger than this
abbrev pub most_number : ℕ
most_number = 2 ^ 32

-- the most that a trip costs, with what a change adds, and that a shunt costs, rounded up
abbrev pub most_cost : ℕ
most_cost = 1000000000000

-- the most that a composition costs on a trip under prices, rounded up: its cost, the price of its units where they are
-- taken, its multipliers at hand-overs, and, where no link leads on from the trip, which is told, the price of its
-- units where they are given
abbrev pub most_priced_cost : Bool → ℕ
most_priced_cost true = 14000000000000000
most_priced_cost false = 8000000000000000

-- the most that an edge is priced, rounded up: at a turn what a shunt costs, the price of the units of the composition
-- that arrives, and that of the units of the one that departs, each of which has stayed or has come; at a join or a
-- split a multiplier of its hand-over
abbrev pub most_edge_price : ℕ
most_edge_price = 13000000000000000

-- the most by which the cells of a trip differ from those ahead: the price of an edge, and a priced cost on a trip from
-- which a link leads on
abbrev pub most_step : ℕ
most_step = 21000000000000000

-- the most that the first paths come to, rounded up: so many steps as the day may have trips, for as many chains
abbrev pub most_found : ℕ
most_found = 10000000000000000000000

-- Amounts are added where they are no larger than the first of these, so that the sum has 64 bits; values where they
-- are no larger than the last, so that it has 128. The cells ahead of a trip, and those that are offered to it, are so
-- small that 64 bits hold them and a step more.
abbrev pub most_amount : ℕ
most_amount = 1000000000000000000

abbrev pub most_ahead : ℕ
most_ahead = 8500000000000000000

abbrev pub most_offered : ℕ
most_offered = 9000000000000000000

abbrev pub most_chain_value : ℕ
most_chain_value = 1000000000000000000000000000000

-- each cell of a row has a small value
abbrev pub AreSmallCells : ℕ → List (Option Cell) → Type 0
AreSmallCells bound row = (comp : ℕ) (cell : Cell) → get_or row comp None ≡ Some cell → IsSmall bound cell.value

-- where the cells of one row are small, those of another are, at a bound that is higher by a step
abbrev pub IsSmallStep : ℕ → List (Option Cell) → List (Option Cell) → Type 0
IsSmallStep step row new = (bound : ℕ) → AreSmallCells bound row → AreSmallCells (bound + step) new
