-- The types of a plan that runs follow an edge of each link.
use Rattle.std.proofs.Common.{◌≡◌, ℕ, ◌<◌, List, [], length, map, Bool, true, Option, Some, None, refl, sym, ap, ◌∙◌}
use Rattle.std.proofs.Common.{arith, slice_get, get_or, unwrap_or}
use Rattle.std.specs.Prelude.{option_map, is_some}
use Rattle.std.proofs.lemmas.Bool.{false≢true}
use Rattle.std.proofs.lemmas.List.{length-map}
use Rattle.std.proofs.lemmas.Option.{slice_get-get_or, slice_get_within}
use Rattle.rules.specs.declared.records.End.{End}
use Rattle.rules.specs.declared.records.LinkKind.{LinkKind}
use Rattle.rules.specs.declared.records.LinkKind.TheVariants.{Turn, Join, Split}
use Rattle.timetable.specs.Compositions.{composition_at}
use Rattle.timetable.specs.Day.{Day, type_of, types_of}
use Rattle.timetable.specs.LinkRows.{NamesBelow}
use Rattle.timetable.specs.Links.{itself, list_of, turned, turn_of, kind_holds, link_holds}
use Rattle.timetable.specs.Running.{Runs}
use Rattle.timetable.specs.Turns.{Parts, turn_parts}
use Rattle.timetable.proofs.LinkNames.{names_below}
use Rattle.rules.proofs.Turning.{map_parts, turn_parts-map}
use Rattle.timetable.proofs.TypeRule.{turned-map, join-map, split-map}
use Rattle.transitions.specs.declared.edge.Edge.{Edge}
use Rattle.transitions.specs.declared.edge.Shunt.{Shunt}
use Rattle.transitions.specs.declared.edge.Shunt.TheVariants.{Keep}
use Rattle.timetable.specs.Chains.{leads_from, leads_to}
use Rattle.timetable.specs.Handovers.{second_of}
use Rattle.transitions.specs.Edges.{IsKindEdge}
use Rattle.transitions.specs.Laws.{shunt_by, TypesFollow, EdgesFound}
use Rattle.transitions.proofs.Listed.{NumberOf, number_of}
use Rattle.transitions.specs.Turns.{shunt_by_units, shunt_of, turn_shunt}

-- the shunt of parts is that of the parts of the types
shunt_of-map : (f : ℕ → ℕ) (parts : Parts) → shunt_of (map_parts f parts) ≡ shunt_of parts
shunt_of-map f parts =
    ap (λ (n : ℕ). shunt_by_units n (length (map f parts.taken))) (length-map parts.given f) ∙ ap (λ (n : ℕ). shunt_by_units (length parts.given) n) (length-map parts.taken f)

-- the types of two lists, as they stand in the catalogue, make the turn of the lists' units
module _ (f : ℕ → ℕ) (uncouple couple : End) (exchange : Bool) (r : Bool) (arriving departing from to : List ℕ) (origin : from ≡ map f arriving) (goal : to ≡ map f departing) where
  turn_follows : is_some (turn_parts f uncouple couple exchange (turned r arriving) departing) ≡ true
      → turn_shunt uncouple couple exchange (turned r from) to ≡ Some (shunt_of (turn_of f uncouple couple exchange (turned r arriving) departing))
  unfolding turn_shunt
  turn_follows holds = at (turn_parts f uncouple couple exchange (turned r arriving) departing) refl holds
    where
      lists : turn_parts itself uncouple couple exchange (turned r from) to ≡ turn_parts itself uncouple couple exchange (map f (turned r arriving)) (map f departing)
      lists =
          ap (λ (us : List ℕ). turn_parts itself uncouple couple exchange (turned r us) to) origin ∙ ap (λ (us : List ℕ). turn_parts itself uncouple couple exchange us to) (turned-map f r arriving)
          ∙ ap (λ (us : List ℕ). turn_parts itself uncouple couple exchange (map f (turned r arriving)) us) goal

      at : (o : Option Parts) → turn_parts f uncouple couple exchange (turned r arriving) departing ≡ o → is_some o ≡ true
          → option_map shunt_of (turn_parts itself uncouple couple exchange (turned r from) to) ≡ Some (shunt_of (turn_of f uncouple couple exchange (turned r arriving) departing))
      at None is h = absurd (false≢true h)
      at (Some parts) is h =
          ap (option_map shunt_of) (lists ∙ turn_parts-map f uncouple couple exchange (turned r arriving) departing parts is)
          ∙ ap (λ (s : Shunt). Some s) (shunt_of-map f parts)
          ∙ ap (λ (o : Option Parts). Some (shunt_of (unwrap_or o (record { kept = []; given = turned r arriving; taken = departing })))) (sym is)

-- a link of a kind, whose rule holds
record KindFollows (day : Day) (plan : List (List ℕ)) (kind : LinkKind) (r : Bool) : Type 0 where
  edge : Edge
  allowed : IsKindEdge day kind r edge
  origin : composition_at day edge.from ≡ types_of day (list_of plan (leads_from kind))
  goal : composition_at day edge.to ≡ types_of day (list_of plan (leads_to kind))
  part : option_map (composition_at day) edge.part ≡ option_map (λ t. types_of day (list_of plan t)) (second_of kind)
  shunt : edge.shunt ≡ shunt_by day kind r plan

module _ (day : Day) (plan : List (List ℕ)) (runs : Runs day plan) where
  on : (t : ℕ) → t < length day.trips → NumberOf day t (types_of day (list_of plan t))
  on t below = number_of day t (types_of day (list_of plan t)) (runs.lists t below).admissible

  kind_follows : (kind : LinkKind) (r : Bool) → NamesBelow (length day.trips) kind → kind_holds (type_of day) kind r plan ≡ true → KindFollows day plan kind r
  kind_follows (Turn a b uncouple couple exchange) r below holds =
      let arriving = on a below.0 in
      let departing = on b below.1 in record {
        edge = record { from = arriving.comp; to = departing.comp; shunt = shunt_by day (Turn a b uncouple couple exchange) r plan; part = None };
        allowed = record {
          arriving = arriving.runs;
          departing = departing.runs;
          rule = turn_follows (type_of day) uncouple couple exchange r (list_of plan a) (list_of plan b) (composition_at day arriving.comp) (composition_at day departing.comp) arriving.is departing.is holds;
          no_part = refl;
        };
        origin = arriving.is;
        goal = departing.is;
        part = refl;
        shunt = refl;
      }
  kind_follows (Join a1 a2 b) r below holds =
      let first = on a1 below.0 in
      let second = on a2 below.1 in
      let departing = on b below.2 in record {
        edge = record { from = first.comp; to = departing.comp; shunt = Keep; part = Some second.comp };
        allowed = record {
          part = second.comp;
          is_part = refl;
          first = first.runs;
          second = second.runs;
          departing = departing.runs;
          rule = rw (first.is, second.is, departing.is, turned-map (type_of day) r (list_of plan a1), turned-map (type_of day) r (list_of plan a2))
              (join-map (type_of day) (turned r (list_of plan a1)) (turned r (list_of plan a2)) (list_of plan b) holds);
          kept = refl;
        };
        origin = first.is;
        goal = departing.is;
        part = ap (λ (ms : List ℕ). Some ms) second.is;
        shunt = refl;
      }
  kind_follows (Split a b1 b2) r below holds =
      let arriving = on a below.0 in
      let first = on b1 below.1 in
      let second = on b2 below.2 in record {
        edge = record { from = arriving.comp; to = first.comp; shunt = Keep; part = Some second.comp };
        allowed = record {
          part = second.comp;
          is_part = refl;
          arriving = arriving.runs;
          first = first.runs;
          second = second.runs;
          rule = rw (arriving.is, first.is, second.is, turned-map (type_of day) r (list_of plan a))
              (split-map (type_of day) (turned r (list_of plan a)) (list_of plan b1) (list_of plan b2) holds);
          kept = refl;
        };
        origin = arriving.is;
        goal = first.is;
        part = ap (λ (ms : List ℕ). Some ms) second.is;
        shunt = refl;
      }

pub types_follow : TypesFollow
unfolding link_holds
types_follow day plan links runs l link at =
    let follows = kind_follows day plan runs link.kind link.reverse (names_below day links l link at) (runs.links l link at) in record {
      edge = follows.edge;
      allowed = record { link = link; at = at; kind = follows.allowed };
      origin = follows.origin;
      goal = follows.goal;
      part = follows.part;
      shunt = follows.shunt;
    }

pub edges_found : EdgesFound
edges_found day graphs are l edge allowed =
    let below : l < length graphs = omega (arith, slice_get_within day.links l allowed.link allowed.at, are.count) in
    let edges : List Edge = get_or graphs l [] in
    let at : slice_get graphs l ≡ Some edges = slice_get-get_or graphs l [] below in
    record { edges = edges; at = at; there = ((are.each l edges at).exact edge).1 allowed; origin = refl; goal = refl }
