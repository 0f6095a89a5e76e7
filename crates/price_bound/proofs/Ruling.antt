-- Picks that follow keep the rule of every link where no part of a hand-over differs from the second trip's pick.
use Rattle.std.proofs.Common.{◌≡◌, ◌<◌, ◌+◌, ℕ, List, length, Option, Some, None, Bool, true, false, ◌==◌, slice_get}
use Rattle.std.proofs.Common.{unwrap_or, position, refl, sym, ap, subst, ◌∙◌, arith, pos, ◌-ℤ◌, int_lt}
use Rattle.std.specs.Prelude.{option_map}
use Rattle.std.proofs.lemmas.Bool.{eqb-true}
use Rattle.std.proofs.lemmas.Option.{slice_get-get_or}
use Rattle.std.proofs.lemmas.Slice.Eq.{bytes_eq-Decides}
use Rattle.timetable.specs.declared.day.indices.Place.{Place}
use Rattle.timetable.specs.declared.day.indices.Place.TheVariants.{Sigma}
use Rattle.timetable.specs.declared.day.records.Handover.{Handover}
use Rattle.rules.specs.declared.records.Link.{Link}
use Rattle.rules.specs.declared.records.LinkKind.{LinkKind}
use Rattle.rules.specs.declared.records.LinkKind.TheVariants.{Turn, Join, Split}
use Rattle.timetable.specs.Accepted.{AreLinks}
use Rattle.timetable.specs.Chains.{leads_from, leads_to}
use Rattle.timetable.specs.Compositions.{compositions_of, composition_at}
use Rattle.timetable.specs.Day.{Day}
use Rattle.timetable.specs.Handovers.{handovers_of, second_of}
use Rattle.timetable.specs.Indices.{sigmas_of}
use Rattle.timetable.specs.Links.{itself, link_holds, list_of}
use Rattle.timetable.specs.Lists.{listed, joined}
use Rattle.timetable.specs.Picks.{picked}
use Rattle.timetable.specs.Turns.{same}
use Rattle.timetable.proofs.Handovers.{are_handovers}
use Rattle.timetable.proofs.LinkNames.{names_below}
use Rattle.timetable.proofs.NamedTrips.{position_none}
use Rattle.timetable.proofs.Listing.{get_joined, get_listed, length-listed}
use Rattle.timetable.proofs.Within.{second_below}
use Rattle.transitions.specs.declared.edge.Edge.{Edge}
use Rattle.transitions.specs.Edges.{IsKindEdge}
use Rattle.transitions.specs.Laws.{AreOn}
use Rattle.transitions.proofs.ByRule.{edges_by_rule}
use Rattle.price_bound.specs.FollowingPicks.{Follow, IsStep, part_of, pick_of}
use Rattle.price_bound.specs.Slacks.{one_if, handover_slack, is_positive, slack_at}
use Rattle.price_bound.proofs.Solving.{LeadWithin, lead_within, list_picked, part_is, IsPart}

-- a hand-over and a composition have a multiplier
pub sigma_there : (day : Day) (h comp : ℕ) → h < length (handovers_of day) → comp < length (compositions_of day)
    → (n : ℕ) × (slice_get (sigmas_of day) n ≡ Some (Sigma h comp))
unfolding sigmas_of
sigma_there day h comp there known =
    let f : ℕ → List Place = λ h. listed (λ c. Sigma h c) (length (compositions_of day)) in
    let long : comp < length (f h) = omega (arith, known, length-listed (λ c. Sigma h c) (length (compositions_of day))) in
    (length (joined f h) + comp, get_joined f (length (handovers_of day)) h comp there long ∙ get_listed (λ c. Sigma h c) (length (compositions_of day)) comp known)

-- the part is not missed: the second trip has it
not_missed : (b : Bool) → int_lt (pos 0) (one_if true -ℤ one_if b) ≡ false → b ≡ true
not_missed true e = refl
not_missed false e = absurd cc

-- the parts of an edge that has none, and of one that has one
no_second : (kind : LinkKind) (day : Day) (r : Bool) (edge : Edge) → second_of kind ≡ None → IsKindEdge day kind r edge → edge.part ≡ None
no_second (Turn a b uncouple couple exchange) day r edge e is = is.no_part
no_second (Join a1 a2 b) day r edge e is = absurd cc
no_second (Split a b1 b2) day r edge e is = absurd cc

module _ (day : Day) (picks : List ℕ) (links : AreLinks day) (follow : Follow day picks) where
  module _ (l : ℕ) (link : Link) (at : slice_get day.links l ≡ Some link) where
    pub step : IsStep day picks l link
    step = follow.steps l link at

    within : LeadWithin (length day.trips) link.kind
    within = lead_within (length day.trips) link.kind (names_below day links l link at)

    one_link : step.allowed.link ≡ link
    one_link = let some : Some step.allowed.link ≡ Some link = sym step.allowed.at ∙ at in cc

    of_kind : IsKindEdge day link.kind link.reverse step.edge
    of_kind = subst (λ (x : Link). IsKindEdge day x.kind x.reverse step.edge) one_link step.allowed.kind

    from : list_of (picked day picks) (leads_from link.kind) ≡ composition_at day step.edge.from
    from = list_picked day picks (leads_from link.kind) (omega (arith, within.from, follow.trips)) ∙ ap (composition_at day) (sym step.from)

    to : list_of (picked day picks) (leads_to link.kind) ≡ composition_at day step.edge.to
    to = list_picked day picks (leads_to link.kind) (omega (arith, within.to, follow.trips)) ∙ ap (composition_at day) (sym step.to)

    pub edge_part : (t : ℕ) → second_of link.kind ≡ Some t → IsPart day step.edge (part_of link (picked day picks))
    edge_part t second = part_is day link.kind link.reverse step.edge (picked day picks) t second of_kind from to

    -- where the second trip has the part, the link's rule holds
    seconds : (o : Option ℕ) → second_of link.kind ≡ o → ((t : ℕ) → second_of link.kind ≡ Some t → composition_at day (pick_of picks t) ≡ part_of link (picked day picks))
        → option_map (list_of (picked day picks)) o ≡ option_map (composition_at day) step.edge.part
    seconds None is have = sym (ap (option_map (composition_at day)) (no_second link.kind day link.reverse step.edge is of_kind))
    seconds (Some t) is have =
        let below : t < length day.trips = second_below (length day.trips) link.kind t (names_below day links l link at) is in
        let part = edge_part t is in
        ap (λ (ms : List ℕ). Some ms) (list_picked day picks t (omega (arith, below, follow.trips)) ∙ have t is ∙ sym part.are)
        ∙ sym (ap (option_map (composition_at day)) part.of_edge)

    pub rule_holds : ((t : ℕ) → second_of link.kind ≡ Some t → composition_at day (pick_of picks t) ≡ part_of link (picked day picks)) → link_holds itself link (picked day picks) ≡ true
    rule_holds have =
        let second : option_map (list_of (picked day picks)) (second_of link.kind) ≡ option_map (composition_at day) step.edge.part = seconds (second_of link.kind) refl have in
        let on : AreOn day (picked day picks) link step.edge = record { arriving = from; departing = to; second = second } in
        ((edges_by_rule day l link step.edge (picked day picks) at on).1 (step.edge.shunt, step.allowed)).1

    -- where no slack at a hand-over is positive, the second trip has the part
    pub has_part : position (is_positive day picks) (sigmas_of day) ≡ None → (t : ℕ) → second_of link.kind ≡ Some t → composition_at day (pick_of picks t) ≡ part_of link (picked day picks)
    has_part none t second =
        let part = edge_part t second in
        let handover : Handover = record { link = l; second = t } in
        let (h, there, read) = (are_handovers day).all l t link at second in
        let here : slice_get (handovers_of day) h ≡ Some handover = slice_get-get_or (handovers_of day) h handover there ∙ ap (λ (x : Handover). Some x) read in
        let (n, place) = sigma_there day h part.part there part.listed in
        let slack : slack_at day picks (Sigma h part.part) ≡ one_if true -ℤ one_if (pick_of picks t == part.part) =
        ap (λ (o : Option Handover). unwrap_or (option_map (handover_slack day picks part.part) o) (pos 0)) here
        ∙ ap (λ (o : Option Link). one_if (unwrap_or (option_map (λ (x : Link). same (part_of x (picked day picks)) (composition_at day part.part)) o) false) -ℤ one_if (pick_of picks t == part.part)) at
        ∙ ap (λ (b : Bool). one_if b -ℤ one_if (pick_of picks t == part.part)) ((bytes_eq-Decides (part_of link (picked day picks)) (composition_at day part.part)).1 (sym part.are)) in
        let fails : is_positive day picks (Sigma h part.part) ≡ false =
        position_none (is_positive day picks) (sigmas_of day) n (Sigma h part.part) none place in
        let is_pick : (pick_of picks t == part.part) ≡ true = not_missed (pick_of picks t == part.part) (ap (int_lt (pos 0)) (sym slack) ∙ fails) in
        ap (composition_at day) (eqb-true (pick_of picks t) part.part is_pick) ∙ part.are
