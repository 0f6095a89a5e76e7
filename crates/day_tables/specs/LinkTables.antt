-- The links that name a trip, listed by trip.
use Rattle.std.specs.Prelude.{ℕ, zero, suc, List, [], ◌∷◌, ◌++◌, Option, set, position}
use Rattle.day_tables.specs.declared.building.link_tables.Side.{Side}
use Rattle.day_tables.specs.declared.building.link_tables.Side.TheVariants.{Arriving, Departing}
use Rattle.rules.specs.declared.records.Link.{Link}
use Rattle.rules.specs.declared.records.LinkKind.{LinkKind}
use Rattle.day_tables.specs.Links.{arriving_in, departing_in}
use Rattle.day_tables.specs.Lists.{has}

-- the trips that a link names on one side
abbrev pub trips_on : Side → LinkKind → List ℕ
trips_on Arriving kind = arriving_in kind
trips_on Departing kind = departing_in kind

-- the number of the first link that names a trip on one side
abbrev pub link_naming : (LinkKind → List ℕ) → List Link → ℕ → Option ℕ
link_naming side links t = position (λ link. has t (side link.kind)) links

-- a table after an entry was set at each of these trips
abbrev pub noted : Option ℕ → List ℕ → List (Option ℕ) → List (Option ℕ)
noted entry [] table = table
noted entry (t ∷ ts) table = noted entry ts (set table t entry)

-- these numbers for the trips below a bound
abbrev pub link_table : (LinkKind → List ℕ) → List Link → ℕ → List (Option ℕ)
link_table side links zero = []
link_table side links (suc t) = link_table side links t ++ link_naming side links t ∷ []
