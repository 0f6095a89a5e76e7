-- A plan that runs follows an edge of each link; each edge is found; edges are there by the rules of links; and what is
-- done at a turn tells how many units the turn gives and takes.
use Rattle.std.specs.Prelude.{ℕ, ◌≡◌, ◌≤◌, ◌↔◌, IsTrue, List, length, Bool, Some, option_map, slice_get}
use Rattle.rules.specs.declared.records.End.{End}
use Rattle.rules.specs.declared.records.Link.{Link}
use Rattle.rules.specs.declared.records.LinkKind.{LinkKind}
use Rattle.rules.specs.declared.records.LinkKind.TheVariants.{Turn, Join, Split}
use Rattle.timetable.specs.Accepted.{AreLinks}
use Rattle.timetable.specs.Chains.{leads_from, leads_to}
use Rattle.timetable.specs.Compositions.{composition_at}
use Rattle.timetable.specs.Day.{Day, type_of, types_of}
use Rattle.timetable.specs.Handovers.{second_of}
use Rattle.timetable.specs.Links.{list_of, itself, turned, turn_of, link_holds}
use Rattle.timetable.specs.Running.{Runs}
use Rattle.timetable.specs.Turns.{Parts, AreParts}
use Rattle.transitions.specs.declared.edge.Edge.{Edge}
use Rattle.transitions.specs.declared.edge.Shunt.{Shunt}
use Rattle.transitions.specs.declared.edge.Shunt.TheVariants.{Keep, Uncouple, Couple, Exchange}
use Rattle.transitions.specs.Edges.{IsAdmittedComp, IsEdge, AreGraphs, IsFound}
use Rattle.transitions.specs.Turns.{shunt_of, turn_shunt}

-- what is done to the train: a turn uncouples the units that the plan gives there, and couples those that it takes
abbrev pub shunt_by : Day → LinkKind → Bool → List (List ℕ) → Shunt
shunt_by day (Turn a b uncouple couple exchange) reversed plan =
    shunt_of (turn_of (type_of day) uncouple couple exchange (turned reversed (list_of plan a)) (list_of plan b))
shunt_by day (Join a1 a2 b) reversed plan = Keep
shunt_by day (Split a b1 b2) reversed plan = Keep

-- An edge of the link goes from the types of the plan's arriving units to those of its departing units. Its part is the
-- types of the second train, and its shunt is what the plan does.
pub record FollowsEdge (day : Day) (plan : List (List ℕ)) (l : ℕ) (link : Link) : Type 0 where
  pub edge : Edge
  pub allowed : IsEdge day l edge
  pub origin : composition_at day edge.from ≡ types_of day (list_of plan (leads_from link.kind))
  pub goal : composition_at day edge.to ≡ types_of day (list_of plan (leads_to link.kind))
  pub part : option_map (composition_at day) edge.part
      ≡ option_map (λ t. types_of day (list_of plan t)) (second_of link.kind)
  pub shunt : edge.shunt ≡ shunt_by day link.kind link.reverse plan

-- A plan that runs follows an edge of each link of its day.
abbrev pub TypesFollow : Type 0
TypesFollow =
    (day : Day) (plan : List (List ℕ)) → AreLinks day → Runs day plan → (l : ℕ) (link : Link)
    → slice_get day.links l ≡ Some link → FollowsEdge day plan l link

-- Each edge of a link is found between its compositions.
abbrev pub EdgesFound : Type 0
EdgesFound =
    (day : Day) (graphs : List (List Edge)) → AreGraphs day graphs → (l : ℕ) (edge : Edge) → IsEdge day l edge
    → IsFound graphs l edge.from edge.to edge

-- lists of types, one a trip, have the edge's compositions on the trips of the link
pub record AreOn (day : Day) (lists : List (List ℕ)) (link : Link) (edge : Edge) : Type 0 where
  pub arriving : list_of lists (leads_from link.kind) ≡ composition_at day edge.from
  pub departing : list_of lists (leads_to link.kind) ≡ composition_at day edge.to
  pub second : option_map (list_of lists) (second_of link.kind) ≡ option_map (composition_at day) edge.part

-- the edge's compositions may run on the trips of the link
pub record MayRunAll (day : Day) (link : Link) (edge : Edge) : Type 0 where
  pub arriving : IsAdmittedComp day (leads_from link.kind) edge.from
  pub departing : IsAdmittedComp day (leads_to link.kind) edge.to
  pub second : (t part : ℕ) → second_of link.kind ≡ Some t → edge.part ≡ Some part → IsAdmittedComp day t part

-- An edge is allowed by a link, with some shunt, exactly where its compositions may run on the link's trips and the
-- link's rule holds of their types.
abbrev pub EdgesByRule : Type 0
EdgesByRule =
    (day : Day) (l : ℕ) (link : Link) (edge : Edge) (lists : List (List ℕ)) → slice_get day.links l ≡ Some link
    → AreOn day lists link edge
    → (MayRunAll day link edge × IsTrue (link_holds itself link lists))
    ↔ ((shunt : Shunt) × IsEdge day l (record edge { shunt = shunt }))

-- what is done tells how many units are given to the yard and how many are taken from it: none, some on one side, or
-- some on both
abbrev pub TellsUnits : Shunt → ℕ → ℕ → Type 0
TellsUnits Keep given taken = (given ≡ 0) × (taken ≡ 0)
TellsUnits (Uncouple units) given taken = (1 ≤ units) × (given ≡ units) × (taken ≡ 0)
TellsUnits (Couple units) given taken = (1 ≤ units) × (given ≡ 0) × (taken ≡ units)
TellsUnits (Exchange uncouple couple) given taken =
    (1 ≤ uncouple) × (1 ≤ couple) × (given ≡ uncouple) × (taken ≡ couple)

-- a turn from an arriving list of types, after a reversal, to a departing one has parts, and what is done tells how
-- many units they give and take
pub record IsShuntOfParts (uncouple couple : End) (exchange : Bool) (arriving departing : List ℕ) (shunt : Shunt)
    : Type 0 where
  pub parts : Parts
  pub are : AreParts itself uncouple couple exchange arriving departing parts
  pub units : TellsUnits shunt (length parts.given) (length parts.taken)

-- The shunt that a turn has is that of its parts, and it has none where no parts are.
abbrev pub ShuntsCountUnits : Type 0
ShuntsCountUnits =
    (uncouple couple : End) (exchange : Bool) (arriving departing : List ℕ) (shunt : Shunt)
    → (turn_shunt uncouple couple exchange arriving departing ≡ Some shunt)
    ↔ IsShuntOfParts uncouple couple exchange arriving departing shunt
