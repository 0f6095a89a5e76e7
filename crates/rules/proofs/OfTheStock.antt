-- What is said of units that a plan names, of the units of the stock.
use Rattle.std.specs.Prelude.{ℕ, List}
use Rattle.rules.specs.Day.{Day, type_of, stock_units}
use Rattle.rules.specs.Running.{MayRunOf, GoesByYardOf, MayFollowOf, ending_of}

-- a list of them that may run on a trip
abbrev pub MayRun : Day → ℕ → List ℕ → Type 0
MayRun day trip us = MayRunOf (type_of day) day trip us

-- one goes through the yard from trip a to trip b
abbrev pub GoesByYard : Day → List (List ℕ) → ℕ → ℕ → ℕ → Type 0
GoesByYard day plan u a b = GoesByYardOf (type_of day) day plan u a b

-- one may go on from trip a to trip b
abbrev pub MayFollow : Day → List (List ℕ) → ℕ → ℕ → ℕ → Type 0
MayFollow day plan u a b = MayFollowOf (type_of day) day plan u a b

-- how many of them, of a type, end the day at a station
abbrev pub ending : Day → List (List ℕ) → ℕ → ℕ → ℕ
ending day plan s m = ending_of (stock_units day) day plan s m
