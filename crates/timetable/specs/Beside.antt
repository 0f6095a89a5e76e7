-- How many entries stay in the train at a link, and what that says of its parts.
use Rattle.std.specs.Prelude.{ℕ, ◌≡◌, List, Bool, Option, None, option_map}
use Rattle.rules.specs.declared.records.LinkKind.{LinkKind}
use Rattle.rules.specs.declared.records.LinkKind.TheVariants.{Turn, Join, Split}
use Rattle.timetable.specs.Links.{list_of, turned}
use Rattle.timetable.specs.Turns.{parts_beside, turn_parts}

-- the parts of a turn are what stays, goes and comes where so many stay, and there are none where no number is said; at
-- a join and a split none is
abbrev pub AreBeside : (ℕ → ℕ) → LinkKind → Bool → List (List ℕ) → Option ℕ → Type 0
AreBeside type_of (Turn a b uncouple couple exchange) r lists staying =
    option_map (parts_beside uncouple couple (turned r (list_of lists a)) (list_of lists b)) staying
    ≡ turn_parts type_of uncouple couple exchange (turned r (list_of lists a)) (list_of lists b)
AreBeside type_of (Join a1 a2 b) r lists staying = staying ≡ None
AreBeside type_of (Split a b1 b2) r lists staying = staying ≡ None
