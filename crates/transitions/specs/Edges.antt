-- The edges of a link: which compositions follow one another by it.
use Rattle.std.specs.Prelude.{ℕ, ◌≡◌, ◌<◌, ◌⊎◌, ◌↔◌, Bool, IsTrue, List, length, Some, None, slice_get, AllPairs}
use Rattle.std.specs.Prelude.{Contains}
use Rattle.rules.specs.declared.records.End.{End}
use Rattle.rules.specs.declared.records.Link.{Link}
use Rattle.rules.specs.declared.records.LinkKind.{LinkKind}
use Rattle.rules.specs.declared.records.LinkKind.TheVariants.{Turn, Join, Split}
use Rattle.timetable.specs.Admissible.{is_admissible}
use Rattle.timetable.specs.Compositions.{compositions_of, composition_at}
use Rattle.timetable.specs.Day.{Day}
use Rattle.timetable.specs.Links.{turned, join_holds, split_holds}
use Rattle.transitions.specs.declared.edge.Edge.{Edge}
use Rattle.transitions.specs.declared.edge.Shunt.{Shunt}
use Rattle.transitions.specs.declared.edge.Shunt.TheVariants.{Keep}
use Rattle.transitions.specs.Turns.{turn_shunt}

-- the number is that of a composition that may run on the trip
pub record IsAdmittedComp (day : Day) (t comp : ℕ) : Type 0 where
  pub listed : comp < length (compositions_of day)
  pub admissible : IsTrue (is_admissible day t (composition_at day comp))

-- A turn of trip a into trip b. After a reversal of the arriving train the types that depart are those that arrive, or
-- what is left of them after units were uncoupled at the uncoupling end, or they with units coupled at the coupling
-- end; or, with exchange, what is left of them with others coupled, one or two each. The shunt says which, and how many
-- units.
pub record IsTurnEdge (day : Day) (reversed : Bool) (a b : ℕ) (uncouple couple : End) (exchange : Bool)
    (edge : Edge) : Type 0 where
  pub arriving : IsAdmittedComp day a edge.from
  pub departing : IsAdmittedComp day b edge.to
  pub rule : turn_shunt uncouple couple exchange (turned reversed (composition_at day edge.from))
      (composition_at day edge.to) ≡ Some edge.shunt
  pub no_part : edge.part ≡ None

-- A join of trips a1 and a2 into trip b. After a reversal of each arriving train the types that depart are those of the
-- first train and then those of the second, whose composition is the part.
pub record IsJoinEdge (day : Day) (reversed : Bool) (a1 a2 b : ℕ) (edge : Edge) : Type 0 where
  pub part : ℕ
  pub is_part : edge.part ≡ Some part
  pub first : IsAdmittedComp day a1 edge.from
  pub second : IsAdmittedComp day a2 part
  pub departing : IsAdmittedComp day b edge.to
  pub rule : IsTrue (join_holds (turned reversed (composition_at day edge.from))
      (turned reversed (composition_at day part)) (composition_at day edge.to))
  pub kept : edge.shunt ≡ Keep

-- A split of trip a into trips b1 and b2. After a reversal of the arriving train its types are those of the first train
-- and then those of the second, whose composition is the part.
pub record IsSplitEdge (day : Day) (reversed : Bool) (a b1 b2 : ℕ) (edge : Edge) : Type 0 where
  pub part : ℕ
  pub is_part : edge.part ≡ Some part
  pub arriving : IsAdmittedComp day a edge.from
  pub first : IsAdmittedComp day b1 edge.to
  pub second : IsAdmittedComp day b2 part
  pub rule : IsTrue (split_holds (turned reversed (composition_at day edge.from)) (composition_at day edge.to)
      (composition_at day part))
  pub kept : edge.shunt ≡ Keep

abbrev pub IsKindEdge : Day → LinkKind → Bool → Edge → Type 0
IsKindEdge day (Turn a b uncouple couple exchange) reversed edge =
    IsTurnEdge day reversed a b uncouple couple exchange edge
IsKindEdge day (Join a1 a2 b) reversed edge = IsJoinEdge day reversed a1 a2 b edge
IsKindEdge day (Split a b1 b2) reversed edge = IsSplitEdge day reversed a b1 b2 edge

-- the edge is allowed by the link of this number
pub record IsEdge (day : Day) (l : ℕ) (edge : Edge) : Type 0 where
  pub link : Link
  pub at : slice_get day.links l ≡ Some link
  pub kind : IsKindEdge day link.kind link.reverse edge

-- the edge goes from a lower composition, or from the same one to a lower one
abbrev pub IsBefore : Edge → Edge → Type 0
IsBefore x y = (x.from < y.from) ⊎ ((x.from ≡ y.from) × (x.to < y.to))

-- the edges rise by the composition that they go from, and then by the one that they go to
abbrev pub AreInOrder : List Edge → Type 0
AreInOrder edges = AllPairs IsBefore edges

-- these and no other edges are allowed by the link
pub record AreEdges (day : Day) (l : ℕ) (edges : List Edge) : Type 0 where
  pub in_order : AreInOrder edges
  pub exact : (edge : Edge) → Contains edges edge ↔ IsEdge day l edge

-- for each link of the day its edges
pub record AreGraphs (day : Day) (graphs : List (List Edge)) : Type 0 where
  pub count : length graphs ≡ length day.links
  pub each : (l : ℕ) (edges : List Edge) → slice_get graphs l ≡ Some edges → AreEdges day l edges

-- the edge is among those of a link, and goes from the one composition to the other
pub record IsFound (graphs : List (List Edge)) (l from to : ℕ) (edge : Edge) : Type 0 where
  pub edges : List Edge
  pub at : slice_get graphs l ≡ Some edges
  pub there : Contains edges edge
  pub origin : edge.from ≡ from
  pub goal : edge.to ≡ to

-- an edge of a link from the one composition to the other has this shunt
pub record IsAllowed (graphs : List (List Edge)) (l from to : ℕ) (shunt : Shunt) : Type 0 where
  pub edge : Edge
  pub found : IsFound graphs l from to edge
  pub is : edge.shunt ≡ shunt
