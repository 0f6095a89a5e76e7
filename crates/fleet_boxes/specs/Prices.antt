-- What the units of a fleet cost, by the price of a unit of each type.
use Rattle.std.specs.Prelude.{ℕ, ◌+◌, ◌*◌, ◌%◌, List, [], ◌∷◌, length, slice_index}

-- the price of a unit at a place
abbrev pub price_at : List ℕ → ℕ → ℕ
price_at prices place = slice_index prices (place % length prices)

-- what the units of a fleet cost from a place on
abbrev pub cost_from : List ℕ → ℕ → List ℕ → ℕ
cost_from prices place [] = 0
cost_from prices place (units ∷ fleet) = units * price_at prices place + cost_from prices (place + 1) fleet

-- what all of them cost
abbrev pub fleet_cost : List ℕ → List ℕ → ℕ
fleet_cost prices fleet = cost_from prices 0 fleet
