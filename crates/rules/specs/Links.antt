-- The rule of a link, over lists of units with their types or over lists of types, and which of the units stay in the
-- train. A function tells the type of each entry of a list: of units, their types; of types, the types themselves.
use Rattle.std.specs.Prelude.{ℕ, List, [], ◌∷◌, ◌++◌, length, reverse, Bool, ◌&&◌, ◌==◌, if◌then◌else◌, nat_le, Option}
use Rattle.std.specs.Prelude.{is_some, option_map, option_to_list, unwrap_or, option_and_then, slice_get, position}
use Rattle.rules.specs.declared.records.End.{End}
use Rattle.rules.specs.declared.records.Link.{Link}
use Rattle.rules.specs.declared.records.LinkKind.{LinkKind}
use Rattle.rules.specs.declared.records.LinkKind.TheVariants.{Turn, Join, Split}
use Rattle.rules.specs.declared.records.LinkTrips.{LinkTrips}
use Rattle.rules.specs.Day.{Day, type_of}
use Rattle.rules.specs.Lists.{has}
use Rattle.rules.specs.Turns.{same, Parts, turn_parts}

-- what a plan gives a trip: its units, front to rear
unfoldable pub list_of : List (List ℕ) → ℕ → List ℕ
list_of plan t = unwrap_or (slice_get plan t) []

-- a type, told of itself: so lists of types go through the same words as lists of units
abbrev pub itself : ℕ → ℕ
itself m = m

-- ---- the rule

-- a join: the first arriving list, and then the second
unfoldable pub join_holds : List ℕ → List ℕ → List ℕ → Bool
join_holds first second departing = same (first ++ second) departing

-- a split: the arriving list is the first departing one and then the second, and neither is empty
unfoldable pub split_holds : List ℕ → List ℕ → List ℕ → Bool
split_holds arriving first second =
    same arriving (first ++ second) && nat_le 1 (length first) && nat_le 1 (length second)

-- a list as it stands after the link has turned the train round, or not
abbrev pub turned : {X : Type 0} → Bool → List X → List X
turned reversed list = if reversed then reverse list else list

abbrev pub kind_holds : (ℕ → ℕ) → LinkKind → Bool → List (List ℕ) → Bool
kind_holds type_of (Turn a b uncouple couple exchange) r lists =
    is_some (turn_parts type_of uncouple couple exchange (turned r (list_of lists a)) (list_of lists b))
kind_holds type_of (Join a1 a2 b) r lists =
    join_holds (turned r (list_of lists a1)) (turned r (list_of lists a2)) (list_of lists b)
kind_holds type_of (Split a b1 b2) r lists =
    split_holds (turned r (list_of lists a)) (list_of lists b1) (list_of lists b2)

-- the link's rule, over the lists of all trips
unfoldable pub link_holds : (ℕ → ℕ) → Link → List (List ℕ) → Bool
link_holds type_of link lists = kind_holds type_of link.kind link.reverse lists

-- ---- the links of a trip

-- the trips that arrive for a link, and those that leave by it
abbrev pub arriving_in : LinkKind → List ℕ
arriving_in (Turn a b uncouple couple exchange) = a ∷ []
arriving_in (Join a1 a2 b) = a1 ∷ a2 ∷ []
arriving_in (Split a b1 b2) = a ∷ []

abbrev pub departing_in : LinkKind → List ℕ
departing_in (Turn a b uncouple couple exchange) = b ∷ []
departing_in (Join a1 a2 b) = b ∷ []
departing_in (Split a b1 b2) = b1 ∷ b2 ∷ []

-- one or two of them as a list
abbrev pub trip_list : LinkTrips → List ℕ
trip_list trips = trips.first ∷ option_to_list trips.second

-- the number of the link that leads on from a trip, and of the one that leads into it
unfoldable pub outgoing : Day → ℕ → Option ℕ
outgoing day t = position (λ link. has t (arriving_in link.kind)) day.links

unfoldable pub incoming : Day → ℕ → Option ℕ
incoming day t = position (λ link. has t (departing_in link.kind)) day.links

abbrev pub link_out : Day → ℕ → Option Link
link_out day t = option_and_then (slice_get day.links) (outgoing day t)

abbrev pub link_into : Day → ℕ → Option Link
link_into day t = option_and_then (slice_get day.links) (incoming day t)

-- the trips that arrive for the link into a trip: none where no link leads into it
abbrev pub trips_into : Day → ℕ → List ℕ
trips_into day t = unwrap_or (option_map (λ link. arriving_in link.kind) (link_into day t)) []

-- ---- kept, given and taken

-- the units that a turn keeps, gives and takes; nothing is kept where its rule is broken
abbrev pub turn_of : (ℕ → ℕ) → End → End → Bool → List ℕ → List ℕ → Parts
turn_of type_of uncouple couple exchange arriving departing =
    unwrap_or (turn_parts type_of uncouple couple exchange arriving departing)
    (record { kept = []; given = arriving; taken = departing })

-- what stays in the train from an arriving trip to a departing trip of a link: at a turn the units at the kept places,
-- at a join the whole arriving list, at a split the whole departing list
abbrev pub kept_by : (ℕ → ℕ) → LinkKind → Bool → List (List ℕ) → ℕ → ℕ → List ℕ
kept_by type_of (Turn a b uncouple couple exchange) r lists from to =
    if (from == a) && (to == b)
    then (turn_of type_of uncouple couple exchange (turned r (list_of lists a)) (list_of lists b)).kept else []
kept_by type_of (Join a1 a2 b) r lists from to =
    if has from (a1 ∷ a2 ∷ []) && (to == b) then turned r (list_of lists from) else []
kept_by type_of (Split a b1 b2) r lists from to = if (from == a) && has to (b1 ∷ b2 ∷ []) then list_of lists to else []

abbrev pub given_by : (ℕ → ℕ) → LinkKind → Bool → List (List ℕ) → List ℕ
given_by type_of (Turn a b uncouple couple exchange) r lists =
    (turn_of type_of uncouple couple exchange (turned r (list_of lists a)) (list_of lists b)).given
given_by type_of (Join a1 a2 b) r lists = []
given_by type_of (Split a b1 b2) r lists = []

abbrev pub taken_by : (ℕ → ℕ) → LinkKind → Bool → List (List ℕ) → List ℕ
taken_by type_of (Turn a b uncouple couple exchange) r lists =
    (turn_of type_of uncouple couple exchange (turned r (list_of lists a)) (list_of lists b)).taken
taken_by type_of (Join a1 a2 b) r lists = []
taken_by type_of (Split a b1 b2) r lists = []

-- what stays in the train from trip a to trip b
unfoldable pub kept_with : (ℕ → ℕ) → Day → List (List ℕ) → ℕ → ℕ → List ℕ
kept_with type_of day lists a b =
    unwrap_or (option_map (λ link. kept_by type_of link.kind link.reverse lists a b) (link_out day a)) []

-- what trip t gives to the yard of its arrival station: all of its list where no link leads on
unfoldable pub given_with : (ℕ → ℕ) → Day → List (List ℕ) → ℕ → List ℕ
given_with type_of day lists t =
    unwrap_or (option_map (λ link. given_by type_of link.kind link.reverse lists) (link_out day t)) (list_of lists t)

-- what trip t takes from the yard of its departure station, front to rear: all of its list where no link leads into it
unfoldable pub taken_with : (ℕ → ℕ) → Day → List (List ℕ) → ℕ → List ℕ
taken_with type_of day lists t =
    unwrap_or (option_map (λ link. taken_by type_of link.kind link.reverse lists) (link_into day t)) (list_of lists t)

-- the same of the units of a plan
abbrev pub kept : Day → List (List ℕ) → ℕ → ℕ → List ℕ
kept day plan a b = kept_with (type_of day) day plan a b

abbrev pub given : Day → List (List ℕ) → ℕ → List ℕ
given day plan t = given_with (type_of day) day plan t

abbrev pub taken : Day → List (List ℕ) → ℕ → List ℕ
taken day plan t = taken_with (type_of day) day plan t
