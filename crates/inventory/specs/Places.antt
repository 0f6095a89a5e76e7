-- Which places of a trip's list stay in the train at a link, and which are given to the yard or taken from it, read off
-- the types of the compositions. So they are known before the later trip's units are named.
use Rattle.std.specs.Prelude.{ℕ, List, [], ◌++◌, length, take, drop, Bool, ◌==◌, if◌then◌else◌, option_map, unwrap_or}
use Rattle.std.specs.List.{flat_map}
use Rattle.rules.specs.declared.records.End.{End}
use Rattle.rules.specs.declared.records.End.TheVariants as at
use Rattle.rules.specs.declared.records.LinkKind.{LinkKind}
use Rattle.rules.specs.declared.records.LinkKind.TheVariants.{Turn, Join, Split}
use Rattle.timetable.specs.Day.{Day}
use Rattle.timetable.specs.Links.{list_of, turned, link_out, link_into, trips_into}
use Rattle.timetable.specs.Turns.{staying, beyond, kept_count}

-- ---- by the kind of a link

-- of the list with which a train arrives, what goes on in trip b
abbrev pub going_by : LinkKind → Bool → List (List ℕ) → ℕ → List ℕ → List ℕ
going_by (Turn a y uncouple couple exchange) r types b us =
    if b == y
    then staying uncouple (turned r us) (kept_count uncouple couple (turned r (list_of types a)) (list_of types y))
    else []
going_by (Join a1 a2 y) r types b us = if b == y then turned r us else []
going_by (Split a y1 y2) r types b us =
    if b == y1 then take (length (list_of types y1)) (turned r us)
    else if b == y2 then drop (length (list_of types y1)) (turned r us) else []

-- what is given
abbrev pub left_by : LinkKind → Bool → List (List ℕ) → List ℕ → List ℕ
left_by (Turn a y uncouple couple exchange) r types us =
    beyond uncouple (turned r us) (kept_count uncouple couple (turned r (list_of types a)) (list_of types y))
left_by (Join a1 a2 y) r types us = []
left_by (Split a y1 y2) r types us = []

-- of the list with which a train departs, what came with a train, and what was taken
abbrev pub come_by : LinkKind → Bool → List (List ℕ) → List ℕ → List ℕ
come_by (Turn a y uncouple couple exchange) r types us =
    staying couple us (kept_count uncouple couple (turned r (list_of types a)) (list_of types y))
come_by (Join a1 a2 y) r types us = us
come_by (Split a y1 y2) r types us = us

abbrev pub fetched_by : LinkKind → Bool → List (List ℕ) → List ℕ → List ℕ
fetched_by (Turn a y uncouple couple exchange) r types us =
    beyond couple us (kept_count uncouple couple (turned r (list_of types a)) (list_of types y))
fetched_by (Join a1 a2 y) r types us = []
fetched_by (Split a y1 y2) r types us = []

-- what came with a train, and what was taken, in one list: the taken units stand at the coupling end of a turn
abbrev pub coupled_at : End → List ℕ → List ℕ → List ℕ
coupled_at at.None come fetched = come
coupled_at at.Rear come fetched = come ++ fetched
coupled_at at.Front come fetched = fetched ++ come

abbrev pub coupled_by : LinkKind → List ℕ → List ℕ → List ℕ
coupled_by (Turn a y uncouple couple exchange) come fetched = coupled_at couple come fetched
coupled_by (Join a1 a2 y) come fetched = come
coupled_by (Split a y1 y2) come fetched = come

-- ---- of a trip

-- of the list of trip a, the part that stays in the train for trip b
unfoldable pub going_on : Day → List (List ℕ) → ℕ → ℕ → List ℕ → List ℕ
going_on day types a b us =
    unwrap_or (option_map (λ link. going_by link.kind link.reverse types b us) (link_out day a)) []

-- of the list of trip a, the part that is given to the yard: all of it where no link leads on
unfoldable pub given_places : Day → List (List ℕ) → ℕ → List ℕ → List ℕ
given_places day types a us =
    unwrap_or (option_map (λ link. left_by link.kind link.reverse types us) (link_out day a)) us

-- of the list of trip b, the part that came with its trains
unfoldable pub kept_places : Day → List (List ℕ) → ℕ → List ℕ → List ℕ
kept_places day types b us =
    unwrap_or (option_map (λ link. come_by link.kind link.reverse types us) (link_into day b)) []

-- of the list of trip b, the part that is taken from the yard: all of it where no link leads into it
unfoldable pub taken_places : Day → List (List ℕ) → ℕ → List ℕ → List ℕ
taken_places day types b us =
    unwrap_or (option_map (λ link. fetched_by link.kind link.reverse types us) (link_into day b)) us

-- the list of trip b, of what came with its trains and what is taken
unfoldable pub put_together : Day → ℕ → List ℕ → List ℕ → List ℕ
put_together day b come fetched =
    unwrap_or (option_map (λ link. coupled_by link.kind come fetched) (link_into day b)) fetched

-- what comes with the trains that lead into trip b, where each trip has such a list
unfoldable pub coming : Day → List (List ℕ) → (ℕ → List ℕ) → ℕ → List ℕ
coming day types lists b = flat_map (λ a. going_on day types a b (lists a)) (trips_into day b)
