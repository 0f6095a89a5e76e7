-- What a turn does to a train in the station.
use Rattle.std.specs.Prelude.{ℕ, List, length, Bool, ◌==◌, if◌then◌else◌, Option, None, option_map}
use Rattle.rules.specs.declared.records.End.{End}
use Rattle.rules.specs.declared.records.LinkKind.{LinkKind}
use Rattle.rules.specs.declared.records.LinkKind.TheVariants.{Turn, Join, Split}
use Rattle.timetable.specs.Links.{itself}
use Rattle.timetable.specs.Turns.{Parts, turn_parts}
use Rattle.transitions.specs.declared.edge.Shunt.{Shunt}
use Rattle.transitions.specs.declared.edge.Shunt.TheVariants.{Keep, Uncouple, Couple, Exchange}

-- what is done where so many units are given to the yard and so many are taken from it
abbrev pub shunt_by_units : ℕ → ℕ → Shunt
shunt_by_units given taken =
    if given == 0 then (if taken == 0 then Keep else Couple taken)
    else if taken == 0 then Uncouple given
    else Exchange given taken

-- the units that are given to the yard are uncoupled, and those that are taken from it are coupled
abbrev pub shunt_of : Parts → Shunt
shunt_of parts = shunt_by_units (length parts.given) (length parts.taken)

-- the shunt of a turn from an arriving list of types, after a reversal, to a departing one; none where the rule is
-- broken
unfoldable pub turn_shunt : End → End → Bool → List ℕ → List ℕ → Option Shunt
turn_shunt uncouple couple exchange arriving departing =
    option_map shunt_of (turn_parts itself uncouple couple exchange arriving departing)

-- the same by the kind of a link, and none at a join or a split
abbrev pub turn_shunt_of : LinkKind → List ℕ → List ℕ → Option Shunt
turn_shunt_of (Turn a b uncouple couple exchange) arriving departing =
    turn_shunt uncouple couple exchange arriving departing
turn_shunt_of (Join a1 a2 b) arriving departing = None
turn_shunt_of (Split a b1 b2) arriving departing = None
