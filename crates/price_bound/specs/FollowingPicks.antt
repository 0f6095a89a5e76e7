-- Picks that follow: each may run on its trip, and from trip to trip each chain has an allowed edge.
use Rattle.std.specs.Prelude.{ℕ, ◌≡◌, ◌<◌, List, [], length, get_or, drop, Bool, Some, slice_get}
use Rattle.rules.specs.declared.records.Link.{Link}
use Rattle.rules.specs.declared.records.LinkKind.{LinkKind}
use Rattle.rules.specs.declared.records.LinkKind.TheVariants.{Turn, Join, Split}
use Rattle.timetable.specs.Chains.{leads_from, leads_to}
use Rattle.timetable.specs.Day.{Day}
use Rattle.timetable.specs.Links.{list_of, turned}
use Rattle.transitions.specs.declared.edge.Edge.{Edge}
use Rattle.transitions.specs.Edges.{IsEdge, IsAdmittedComp}

-- the pick of a trip
abbrev pub pick_of : List ℕ → ℕ → ℕ
pick_of picks t = get_or picks t 0

-- The link allows an edge from the pick of the trip that it leads from to the pick of the trip that it leads to. At a
-- join or a split the edge has a part that may run on the second trip, and that need not be that trip's own pick.
pub record IsStep (day : Day) (picks : List ℕ) (l : ℕ) (link : Link) : Type 0 where
  pub edge : Edge
  pub allowed : IsEdge day l edge
  pub from : edge.from ≡ pick_of picks (leads_from link.kind)
  pub to : edge.to ≡ pick_of picks (leads_to link.kind)

-- The picks follow: there is one for each trip, each may run on its trip, and each link leads along its chain by an
-- edge.
pub record Follow (day : Day) (picks : List ℕ) : Type 0 where
  pub trips : length picks ≡ length day.trips
  pub run : (t : ℕ) → t < length day.trips → IsAdmittedComp day t (pick_of picks t)
  pub steps : (l : ℕ) (link : Link) → slice_get day.links l ≡ Some link → IsStep day picks l link

-- The part of a join or a split, as the lists of its chain's trips leave it: what departs from a join behind the first
-- train, and what arrives for a split behind the first one. It is in the driving direction of the second trip, so that
-- the part of a join is turned back where the link turned it. A turn has none.
abbrev pub part_by : LinkKind → Bool → List (List ℕ) → List ℕ
part_by (Turn a b uncouple couple exchange) r lists = []
part_by (Join a1 a2 b) r lists = turned r (drop (length (list_of lists a1)) (list_of lists b))
part_by (Split a b1 b2) r lists = drop (length (list_of lists b1)) (turned r (list_of lists a))

abbrev pub part_of : Link → List (List ℕ) → List ℕ
part_of link lists = part_by link.kind link.reverse lists
