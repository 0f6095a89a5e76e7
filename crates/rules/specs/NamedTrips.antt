-- Which trips a link names, which two of them it makes neighbours in a chain, and that all are below a bound.
use Rattle.std.specs.Prelude.{ℕ, ◌<◌, Option, Some, None, IfSome}
use Rattle.rules.specs.declared.records.LinkKind.{LinkKind}
use Rattle.rules.specs.declared.records.LinkKind.TheVariants.{Turn, Join, Split}
use Rattle.rules.specs.declared.records.LinkTrips.{LinkTrips}

-- The two trips that a link makes neighbours in a chain: the one that arrives and the one that departs, and of two that
-- do so the first.
abbrev pub leads_from : LinkKind → ℕ
leads_from (Turn a b uncouple couple exchange) = a
leads_from (Join a1 a2 b) = a1
leads_from (Split a b1 b2) = a

abbrev pub leads_to : LinkKind → ℕ
leads_to (Turn a b uncouple couple exchange) = b
leads_to (Join a1 a2 b) = b
leads_to (Split a b1 b2) = b1

-- the second arriving trip of a join, and the second departing trip of a split; a turn has no second trip
abbrev pub second_of : LinkKind → Option ℕ
second_of (Turn a b uncouple couple exchange) = None
second_of (Join a1 a2 b) = Some a2
second_of (Split a b1 b2) = Some b2

-- every trip that the kind names is below a bound
abbrev pub NamesBelow : ℕ → LinkKind → Type 0
NamesBelow bound (Turn a b uncouple couple exchange) = (a < bound) × (b < bound)
NamesBelow bound (Join a1 a2 b) = (a1 < bound) × (a2 < bound) × (b < bound)
NamesBelow bound (Split a b1 b2) = (a < bound) × (b1 < bound) × (b2 < bound)

-- these trips of a link are below a bound
abbrev pub AreBelow : ℕ → LinkTrips → Type 0
AreBelow bound trips = (trips.first < bound) × IfSome trips.second (λ t. t < bound)
