-- A solution follows, and is near each region that it lies in.
use Rattle.std.proofs.Common.{◌≡◌, ◌<◌, ℕ, List, [], ◌++◌, length, map, drop, Option, Some, Bool, true, IsTrue}
use Rattle.std.proofs.Common.{slice_get, get_or, unwrap_or, sym, ap, subst, ◌∙◌, arith}
use Rattle.std.specs.Prelude.{option_map}
use Rattle.std.proofs.lemmas.Bool.{and_parts}
use Rattle.std.proofs.lemmas.Option.{slice_get-map, slice_get-get_or}
use Rattle.std.proofs.Math.Seq.{drop-append_seam}
use Rattle.compositions.proofs.Listing.{catalogue_listed}
use Rattle.rules.specs.declared.records.Link.{Link}
use Rattle.rules.specs.declared.records.LinkKind.{LinkKind}
use Rattle.rules.specs.declared.records.LinkKind.TheVariants.{Turn, Join, Split}
use Rattle.timetable.specs.Accepted.{AreLinks}
use Rattle.timetable.specs.Admissible.{is_admissible}
use Rattle.timetable.specs.Chains.{leads_from, leads_to}
use Rattle.timetable.specs.Compositions.{greatest_platform, compositions_of, composition_at}
use Rattle.timetable.specs.Day.{Day, types_of}
use Rattle.timetable.specs.Handovers.{second_of}
use Rattle.timetable.specs.LinkRows.{NamesBelow}
use Rattle.timetable.specs.Links.{list_of, turned, join_holds, split_holds}
use Rattle.timetable.specs.Picks.{IsSolution, picked}
use Rattle.timetable.proofs.Leading.{from_below, to_below}
use Rattle.timetable.proofs.LinkNames.{names_below}
use Rattle.timetable.proofs.Shares.{same_lists}
use Rattle.timetable.proofs.Within.{second_below}
use Rattle.transitions.specs.declared.edge.Edge.{Edge}
use Rattle.transitions.specs.Edges.{IsKindEdge, IsAdmittedComp}
use Rattle.transitions.specs.Laws.{FollowsEdge}
use Rattle.transitions.proofs.Following.{types_follow}
use Rattle.transitions.proofs.Kept.{turned_twice, length-turned}
use Rattle.transitions.proofs.Numbers.{same_place, at_number}
use Rattle.branch_tree.specs.Regions.{are_in}
use Rattle.branch_tree.proofs.Lying.{picks_lie_by_trip}
use Rattle.price_bound.specs.FollowingPicks.{Follow, IsStep, part_by, part_of, pick_of}
use Rattle.price_bound.specs.Near.{AreNear, LieIn}

-- compositions of the same types have one number
pub same_number : (day : Day) (a b : ℕ) → a < length (compositions_of day) → b < length (compositions_of day) → composition_at day a ≡ composition_at day b → a ≡ b
same_number day a b within_a within_b e =
    same_place (compositions_of day) (catalogue_listed day.types (greatest_platform day)).listed.in_order a b (composition_at day b)
    (at_number day a within_a ∙ ap (λ (ms : List ℕ). Some ms) e) (at_number day b within_b)

-- the list of a trip, of lists that are made one by one
list_made : {X : Type 0} (f : X → List ℕ) (xs : List X) (t : ℕ) (d : X) → t < length xs → list_of (map f xs) t ≡ f (get_or xs t d)
unfolding list_of
list_made f xs t d below = ap (λ (o : Option (List ℕ)). unwrap_or o []) (slice_get-map f xs t ∙ ap (option_map f) (slice_get-get_or xs t d below))

pub list_read : (plan : List (List ℕ)) (t : ℕ) → t < length plan → list_of plan t ≡ get_or plan t []
unfolding list_of
list_read plan t below = ap (λ (o : Option (List ℕ)). unwrap_or o []) (slice_get-get_or plan t [] below)

-- the types of a trip's composition
pub list_picked : (day : Day) (picks : List ℕ) (t : ℕ) → t < length picks → list_of (picked day picks) t ≡ composition_at day (pick_of picks t)
list_picked day picks t below = list_made (composition_at day) picks t 0 below

-- the compositions of an edge are of the catalogue
pub record AreListed (day : Day) (edge : Edge) : Type 0 where
  pub from : edge.from < length (compositions_of day)
  pub to : edge.to < length (compositions_of day)

pub edge_listed : (day : Day) (kind : LinkKind) (r : Bool) (edge : Edge) → IsKindEdge day kind r edge → AreListed day edge
edge_listed day (Turn a b uncouple couple exchange) r edge is = record { from = is.arriving.listed; to = is.departing.listed }
edge_listed day (Join a1 a2 b) r edge is = record { from = is.first.listed; to = is.departing.listed }
edge_listed day (Split a b1 b2) r edge is = record { from = is.arriving.listed; to = is.first.listed }

-- the trips of a link that lead along a chain are there
pub record LeadWithin (n : ℕ) (kind : LinkKind) : Type 0 where
  pub from : leads_from kind < n
  pub to : leads_to kind < n

pub lead_within : (n : ℕ) (kind : LinkKind) → NamesBelow n kind → LeadWithin n kind
lead_within n kind below = record { from = from_below n kind below; to = to_below n kind below }

-- the part that a chain's lists leave is the part of the edge
joined_part : (r : Bool) (first part departing : List ℕ) → turned r first ++ turned r part ≡ departing → turned r (drop (length first) departing) ≡ part
joined_part r first part departing e =
    ap (λ (ms : List ℕ). turned r (drop (length first) ms)) (sym e)
    ∙ ap (λ (n : ℕ). turned r (drop n (turned r first ++ turned r part))) (sym (length-turned r first))
    ∙ ap (turned r) (drop-append_seam (turned r first) (turned r part))
    ∙ turned_twice r part

split_part : (arriving first part : List ℕ) → arriving ≡ first ++ part → drop (length first) arriving ≡ part
split_part arriving first part e = ap (drop (length first)) e ∙ drop-append_seam first part

pub record IsPart (day : Day) (edge : Edge) (types : List ℕ) : Type 0 where
  pub part : ℕ
  pub of_edge : edge.part ≡ Some part
  pub listed : part < length (compositions_of day)
  pub are : composition_at day part ≡ types

pub part_is : (day : Day) (kind : LinkKind) (r : Bool) (edge : Edge) (lists : List (List ℕ)) (t : ℕ) → second_of kind ≡ Some t → IsKindEdge day kind r edge
    → list_of lists (leads_from kind) ≡ composition_at day edge.from → list_of lists (leads_to kind) ≡ composition_at day edge.to
    → IsPart day edge (part_by kind r lists)
unfolding join_holds split_holds
part_is day (Turn a b uncouple couple exchange) r edge lists t second is from to = absurd cc
part_is day (Join a1 a2 b) r edge lists t second is from to = record {
  part = is.part;
  of_edge = is.is_part;
  listed = is.second.listed;
  are = sym (joined_part r (list_of lists a1) (composition_at day is.part) (list_of lists b)
      (ap (λ (ms : List ℕ). turned r ms ++ turned r (composition_at day is.part)) from
      ∙ same_lists (turned r (composition_at day edge.from) ++ turned r (composition_at day is.part)) (composition_at day edge.to) is.rule ∙ sym to));
}
part_is day (Split a b1 b2) r edge lists t second is from to = record {
  part = is.part;
  of_edge = is.is_part;
  listed = is.second.listed;
  are = sym (split_part (turned r (list_of lists a)) (list_of lists b1) (composition_at day is.part)
      (ap (turned r) from
      ∙ same_lists (turned r (composition_at day edge.from)) (composition_at day edge.to ++ composition_at day is.part) (and_parts _ _ (and_parts _ _ is.rule).0).0
      ∙ ap (λ (ms : List ℕ). ms ++ composition_at day is.part) (sym to)));
}

module _ (day : Day) (picks : List ℕ) (links : AreLinks day) (solves : IsSolution day picks) where
  plan_long : (t : ℕ) → t < length day.trips → t < length solves.plan
  plan_long t below = omega (arith, below, solves.runs.is_plan.trips)

  picks_long : (t : ℕ) → t < length day.trips → t < length picks
  picks_long t below = omega (arith, below, solves.are_picks.trips)

  -- the types of a trip's units are its composition
  typed : (t : ℕ) → t < length day.trips → types_of day (list_of solves.plan t) ≡ composition_at day (pick_of picks t)
  typed t below =
      ap (types_of day) (list_read solves.plan t (plan_long t below))
      ∙ sym (list_made (types_of day) solves.plan t [] (plan_long t below))
      ∙ ap (λ (lists : List (List ℕ)). list_of lists t) solves.types
      ∙ list_picked day picks t (picks_long t below)

  listed : (t : ℕ) → t < length day.trips → pick_of picks t < length (compositions_of day)
  listed t below = solves.are_picks.known t 0 (picks_long t below)

  runs_on : (t : ℕ) → t < length day.trips → IsAdmittedComp day t (pick_of picks t)
  runs_on t below = record {
    listed = listed t below;
    admissible = subst (λ (ms : List ℕ). is_admissible day t ms ≡ true) (typed t below) (solves.runs.lists t below).admissible;
  }

  module _ (l : ℕ) (link : Link) (at : slice_get day.links l ≡ Some link) where
    follows : FollowsEdge day solves.plan l link
    follows = types_follow day solves.plan links solves.runs l link at

    within : LeadWithin (length day.trips) link.kind
    within = lead_within (length day.trips) link.kind (names_below day links l link at)

    edge_is : AreListed day follows.edge
    edge_is = edge_listed day follows.allowed.link.kind follows.allowed.link.reverse follows.edge follows.allowed.kind

    step : IsStep day picks l link
    step = record {
      edge = follows.edge;
      allowed = follows.allowed;
      from = same_number day follows.edge.from (pick_of picks (leads_from link.kind)) edge_is.from (listed (leads_from link.kind) within.from)
          (follows.origin ∙ typed (leads_from link.kind) within.from);
      to = same_number day follows.edge.to (pick_of picks (leads_to link.kind)) edge_is.to (listed (leads_to link.kind) within.to)
          (follows.goal ∙ typed (leads_to link.kind) within.to);
    }

    one_link : follows.allowed.link ≡ link
    one_link = let some : Some follows.allowed.link ≡ Some link = sym follows.allowed.at ∙ at in cc

    of_kind : IsKindEdge day link.kind link.reverse follows.edge
    of_kind = subst (λ (x : Link). IsKindEdge day x.kind x.reverse follows.edge) one_link follows.allowed.kind

    -- the second train's composition is the part
    part_typed : (t : ℕ) → second_of link.kind ≡ Some t → composition_at day (pick_of picks t) ≡ part_of link (picked day picks)
    part_typed t second =
        let below : t < length day.trips = second_below (length day.trips) link.kind t (names_below day links l link at) second in
        let from : list_of (picked day picks) (leads_from link.kind) ≡ composition_at day follows.edge.from =
        list_picked day picks (leads_from link.kind) (picks_long (leads_from link.kind) within.from) ∙ sym (follows.origin ∙ typed (leads_from link.kind) within.from) in
        let to : list_of (picked day picks) (leads_to link.kind) ≡ composition_at day follows.edge.to =
        list_picked day picks (leads_to link.kind) (picks_long (leads_to link.kind) within.to) ∙ sym (follows.goal ∙ typed (leads_to link.kind) within.to) in
        let part = part_is day link.kind link.reverse follows.edge (picked day picks) t second of_kind from to in
        let some : Some (composition_at day part.part) ≡ Some (types_of day (list_of solves.plan t)) =
        sym (ap (option_map (composition_at day)) part.of_edge) ∙ follows.part ∙ ap (option_map (λ (k : ℕ). types_of day (list_of solves.plan k))) second in
        let types : composition_at day part.part ≡ types_of day (list_of solves.plan t) = cc in
        sym (typed t below) ∙ sym types ∙ part.are

    part_lies : (t : ℕ) (region : List (List Bool)) → second_of link.kind ≡ Some t → IsTrue (are_in picks region) → LieIn day region t (part_of link (picked day picks))
    part_lies t region second inside =
        let below : t < length day.trips = second_below (length day.trips) link.kind t (names_below day links l link at) second in
        let in_each = (picks_lie_by_trip picks region).0 inside in record {
          comp = pick_of picks t;
          listed = listed t below;
          are = part_typed t second;
          inside = in_each.1 t (omega (arith, in_each.0, picks_long t below));
        }

  pub solution_follows : Follow day picks
  solution_follows = record { trips = solves.are_picks.trips; run = runs_on; steps = step }

  pub solution_near : (region : List (List Bool)) → IsTrue (are_in picks region) → AreNear day picks region
  solution_near region inside = record {
    inside = inside;
    follow = solution_follows;
    parts = λ l t link at second. part_lies l link at t region second inside;
  }

  -- the composition of the second trip of a link is the link's part, and is of the catalogue
  pub second_is_part : (l t : ℕ) (link : Link) → slice_get day.links l ≡ Some link → second_of link.kind ≡ Some t → composition_at day (pick_of picks t) ≡ part_of link (picked day picks)
  second_is_part l t link at second = part_typed l link at t second

  pub second_listed : (l t : ℕ) (link : Link) → slice_get day.links l ≡ Some link → second_of link.kind ≡ Some t → pick_of picks t < length (compositions_of day)
  second_listed l t link at second = listed t (second_below (length day.trips) link.kind t (names_below day links l link at) second)
