-- How the edges of a link are found: from each departing composition those of which it may be made, and from each
-- arriving one those that may be left of it. At an exchange the arriving one is what stays with one or two units more.
use Rattle.std.specs.Prelude.{ℕ, ◌≡◌, ◌<◌, ◌≤◌, ◌-◌, ◌⊎◌, ◌++◌, Bool, true, false, List, length, map, Some}
use Rattle.std.specs.List.{All, Contains}
use Rattle.rail_base.specs.declared.limits.TheConstants.{MAX_EXCHANGED}
use Rattle.rules.specs.declared.records.End.{End}
use Rattle.rules.specs.declared.records.End.TheVariants as at
use Rattle.rules.specs.declared.records.LinkKind.{LinkKind}
use Rattle.rules.specs.declared.records.LinkKind.TheVariants.{Turn, Join, Split}
use Rattle.timetable.specs.Admissible.{is_admissible}
use Rattle.timetable.specs.Chains.{leads_from, leads_to}
use Rattle.timetable.specs.Compositions.{compositions_of, composition_at}
use Rattle.timetable.specs.Day.{Day}
use Rattle.timetable.specs.Handovers.{second_of}
use Rattle.timetable.specs.Links.{turned}
use Rattle.timetable.specs.Turns.{staying}
use Rattle.transitions.specs.declared.allowed.Admitted.{Admitted}
use Rattle.transitions.specs.declared.edge.Edge.{Edge}
use Rattle.transitions.specs.declared.pairs.Pair.{Pair}
use Rattle.transitions.specs.Edges.{IsKindEdge}

-- for each composition whether it may run on the trip
abbrev pub runs_on : Day → ℕ → List Bool
runs_on day t = map (is_admissible day t) (compositions_of day)

-- for each composition whether it may run on each of a link's trips
pub record AreAdmitted (day : Day) (kind : LinkKind) (admitted : Admitted) : Type 0 where
  pub arriving : admitted.arriving.items ≡ runs_on day (leads_from kind)
  pub departing : admitted.departing.items ≡ runs_on day (leads_to kind)
  pub second : (t : ℕ) → second_of kind ≡ Some t → admitted.second.items ≡ runs_on day t

-- the ends at which a link takes units from the arriving train and adds units to it: the second train of a split goes
-- from the rear, and that of a join comes to it
abbrev pub uncoupled_at : LinkKind → End
uncoupled_at (Turn a b uncouple couple exchange) = uncouple
uncoupled_at (Join a1 a2 b) = at.None
uncoupled_at (Split a b1 b2) = at.Rear

abbrev pub coupled_at : LinkKind → End
coupled_at (Turn a b uncouple couple exchange) = couple
coupled_at (Join a1 a2 b) = at.Rear
coupled_at (Split a b1 b2) = at.None

-- a turn with exchange may uncouple units at its uncoupling end and couple units at its coupling end
abbrev pub may_exchange : LinkKind → Bool
may_exchange (Turn a b uncouple couple exchange) = exchange
may_exchange (Join a1 a2 b) = false
may_exchange (Split a b1 b2) = false

-- units with others at this end; no others where it is neither end
abbrev pub joined_at : End → List ℕ → List ℕ → List ℕ
joined_at at.None units others = units
joined_at at.Rear units others = units ++ others
joined_at at.Front units others = others ++ units

-- all compositions that an exchange may uncouple are among the first so many
pub record AreAmongFirst (day : Day) (few : ℕ) : Type 0 where
  pub within : few ≤ length (compositions_of day)
  pub all : (comp : ℕ) → comp < length (compositions_of day) → length (composition_at day comp) ≤ MAX_EXCHANGED
      → comp < few

-- both compositions of a pair are in the catalogue
pub record IsKnown (day : Day) (pair : Pair) : Type 0 where
  pub from : pair.from < length (compositions_of day)
  pub to : pair.to < length (compositions_of day)

-- the arriving composition, after a reversal, is so many units of the departing one
pub record IsFront (day : Day) (reversed : Bool) (end : End) (most : ℕ) (pair : Pair) : Type 0 where
  pub units : ℕ
  pub some : 1 ≤ units
  pub within : units ≤ most
  pub is : composition_at day pair.from ≡ turned reversed (staying end (composition_at day pair.to) units)

-- the departing composition is so many units of the arriving one, after a reversal
pub record IsLeft (day : Day) (reversed : Bool) (end : End) (most : ℕ) (pair : Pair) : Type 0 where
  pub units : ℕ
  pub some : 1 ≤ units
  pub within : units ≤ most
  pub is : composition_at day pair.to ≡ staying end (turned reversed (composition_at day pair.from)) units

-- the arriving composition, after a reversal, is these units with one of the first so many compositions at this end
pub record IsJoined (day : Day) (reversed : Bool) (end : End) (units : List ℕ) (few : ℕ) (pair : Pair) : Type 0 where
  pub part : ℕ
  pub below : part < few
  pub is : composition_at day pair.from ≡ turned reversed (joined_at end units (composition_at day part))

-- the arriving composition, after a reversal, is what the departing one was before up to so many of its units were
-- coupled, with one of the first so many compositions that is uncoupled
pub record IsExchanged (day : Day) (reversed : Bool) (uncouple couple : End) (few most : ℕ) (pair : Pair) : Type 0 where
  pub coupled : ℕ
  pub some : 1 ≤ coupled
  pub within : coupled ≤ most
  pub less : coupled < length (composition_at day pair.to)
  pub joined : IsJoined day reversed uncouple
      (staying couple (composition_at day pair.to) (length (composition_at day pair.to) - coupled)) few pair

-- the arriving composition is that of which the departing one is made: by coupling alone, or by an exchange
abbrev pub IsMade : Day → LinkKind → Bool → ℕ → Pair → Type 0
IsMade day kind reversed few pair = IsFront day reversed (coupled_at kind) (length (composition_at day pair.to)) pair
    ⊎ ((may_exchange kind ≡ true)
    × IsExchanged day reversed (uncoupled_at kind) (coupled_at kind) few MAX_EXCHANGED pair)

-- the pairs of a list and more, among them all of a kind
pub record Grown (day : Day) (before after : List Pair) (P : Pair → Type 0) : Type 0 where
  pub known : All (IsKnown day) after
  pub keeps : (pair : Pair) → Contains before pair → Contains after pair
  pub adds : (pair : Pair) → IsKnown day pair → P pair → Contains after pair

-- each edge of a link is between compositions of a pair
abbrev pub HaveEdges : Day → LinkKind → Bool → List Pair → Type 0
HaveEdges day kind reversed pairs =
    (edge : Edge) → IsKindEdge day kind reversed edge → Contains pairs (record { from = edge.from; to = edge.to })

-- a pair comes before another: by the composition that arrives, and then by the one that departs
abbrev pub IsBeforePair : Pair → Pair → Type 0
IsBeforePair x y = (x.from < y.from) ⊎ ((x.from ≡ y.from) × (x.to < y.to))
