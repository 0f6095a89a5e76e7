-- Along a chain of the day: picks are a path through its stages exactly where they are near the region on its trips,
-- and the path's value is what its trips and the links between them add.
use Rattle.std.proofs.Common.{◌≡◌, ℕ, ◌<◌, ◌≤◌, List, [], ◌∷◌, ◌⊎◌, length, ◌&&◌, Option, Some, None, IsTrue, refl, sym}
use Rattle.std.proofs.Common.{ap, ◌∙◌, subst, arith, ℤ, pos, ◌+ℤ◌, inl, inr, unwrap_or, slice_get, Contains}
use Rattle.std.specs.Prelude.{nat_lt}
use Rattle.std.proofs.lemmas.Bool.{and_from, and_parts, cases_eq, cond-true, lt-ltb, ltb-true}
use Rattle.std.proofs.lemmas.Int.{ints}
use Rattle.std.proofs.lemmas.Option.{cond_some, slice_get_within}
use Rattle.rules.specs.declared.records.Link.{Link}
use Rattle.timetable.specs.Accepted.{AreLinks}
use Rattle.timetable.specs.Admissible.{is_admissible}
use Rattle.timetable.specs.Chains.{Leads, leads_from, leads_to}
use Rattle.timetable.specs.Compositions.{compositions_of, composition_at}
use Rattle.timetable.specs.Handovers.{second_of}
use Rattle.timetable.specs.Links.{arriving_in, departing_in, list_of, outgoing}
use Rattle.timetable.specs.Lists.{count_of}
use Rattle.timetable.specs.Picks.{picked}
use Rattle.timetable.specs.Running.{EachFollows}
use Rattle.timetable.proofs.NamedTrips.{place_is}
use Rattle.timetable.proofs.Ones.{one_same, one_other}
use Rattle.transitions.specs.declared.edge.Edge.{Edge}
use Rattle.transitions.specs.Edges.{AreGraphs, IsEdge, IsKindEdge, IsAdmittedComp}
use Rattle.branch_tree.specs.Regions.{has}
use Rattle.branch_tree.specs.IntSums.{int_sum}
use Rattle.price_bound.specs.ChainStages.{Priced, along, cost_on, edges_of, may_have, part_is_in, price_by_link}
use Rattle.price_bound.specs.ChainStages.{price_of, stage_of, stages_of, priced_cost_of}
use Rattle.price_bound.specs.EdgeValues.{edge_value}
use Rattle.price_bound.specs.FollowingPicks.{IsStep, pick_of}
use Rattle.price_bound.specs.Paths.{IsPath, IsStepAt}
use Rattle.price_bound.specs.Regrouped.{trip_value}
use Rattle.price_bound.proofs.ByLink.{adds_none, adds_one, adds_to}
use Rattle.price_bound.proofs.EdgeValues.{edge_is}
use Rattle.price_bound.proofs.IntLaws.{only_at, only_here}
use Rattle.price_bound.proofs.Regrouping.{from_named, to_named}
use Rattle.price_bound.proofs.Solving.{list_picked}
use Rattle.price_bound.proofs.Regrouped.{value_at_link}
use Rattle.price_bound.proofs.Steps.{entry_below}

-- what picks that are near a region are on a trip: the trip's pick may run and is in the region
pub record IsNearOn (priced : Priced) (picks : List ℕ) (t : ℕ) : Type 0 where
  pub runs : IsAdmittedComp priced.day t (pick_of picks t)
  pub inside : IsTrue (has priced.region t (pick_of picks t))

-- what they are at a link: its edge is allowed, with a part in the region
pub record IsNearAt (priced : Priced) (picks : List ℕ) (l : ℕ) (link : Link) : Type 0 where
  pub step : IsStep priced.day picks l link
  pub part : IsTrue (part_is_in priced.region (second_of link.kind) step.edge.part)

module _ (priced : Priced) (picks : List ℕ) (links : AreLinks priced.day) (graphs : AreGraphs priced.day priced.graphs) (long : length picks ≡ length priced.day.trips) where
  abbrev lists : List (List ℕ)
  lists = picked priced.day picks

  -- ---- trips

  abbrev pub priced_cost_on : ℕ → ℤ
  priced_cost_on t = trip_value priced.day (cost_on priced) priced.entries priced.weight t (pick_of picks t)

  near_priced_cost : (t : ℕ) → IsNearOn priced picks t → priced_cost_of priced t (pick_of picks t) ≡ Some (priced_cost_on t)
  near_priced_cost t near =
      cond-true (may_have priced.day priced.region t (pick_of picks t)) (Some (priced_cost_on t)) None
      (and_from (has priced.region t (pick_of picks t)) (nat_lt (pick_of picks t) (length (compositions_of priced.day)) && is_admissible priced.day t (composition_at priced.day (pick_of picks t)))
      near.inside (and_from (nat_lt (pick_of picks t) (length (compositions_of priced.day))) (is_admissible priced.day t (composition_at priced.day (pick_of picks t))) (lt-ltb (pick_of picks t) (length (compositions_of priced.day)) near.runs.listed) near.runs.admissible))

  pub record HasPricedCost (t : ℕ) (value : ℤ) : Type 0 where
    pub near : IsNearOn priced picks t
    pub same : value ≡ priced_cost_on t

  priced_cost_near : (t : ℕ) (value : ℤ) → priced_cost_of priced t (pick_of picks t) ≡ Some value → HasPricedCost t value
  priced_cost_near t value e =
      let both = cond_some (may_have priced.day priced.region t (pick_of picks t)) (priced_cost_on t) value e in
      let in_region = and_parts (has priced.region t (pick_of picks t)) (nat_lt (pick_of picks t) (length (compositions_of priced.day)) && is_admissible priced.day t (composition_at priced.day (pick_of picks t))) both.0 in
      let runs = and_parts (nat_lt (pick_of picks t) (length (compositions_of priced.day))) (is_admissible priced.day t (composition_at priced.day (pick_of picks t))) in_region.1 in
      record {
        near = record { runs = record { listed = ltb-true (pick_of picks t) (length (compositions_of priced.day)) runs.0; admissible = runs.1 }; inside = in_region.0 };
        same = sym both.1;
      }

  -- ---- links

  -- what the links add that lead to a trip
  abbrev pub value_of_link : Link → ℕ → ℤ
  value_of_link link l = value_at_link priced.day priced.entries priced.weight lists l link

  module _ (a b : ℕ) (leads : Leads priced.day a b) (a_below : a < length priced.day.trips) (b_below : b < length priced.day.trips) where
    from_is : pick_of picks (leads_from leads.link.kind) ≡ pick_of picks a
    from_is = ap (pick_of picks) leads.from

    to_is : pick_of picks (leads_to leads.link.kind) ≡ pick_of picks b
    to_is = ap (pick_of picks) leads.to

    list_from : list_of lists (leads_from leads.link.kind) ≡ composition_at priced.day (pick_of picks a)
    list_from = ap (list_of lists) leads.from ∙ list_picked priced.day picks a (omega (arith, a_below, long))

    list_to : list_of lists (leads_to leads.link.kind) ≡ composition_at priced.day (pick_of picks b)
    list_to = ap (list_of lists) leads.to ∙ list_picked priced.day picks b (omega (arith, b_below, long))

    -- the link is the one that leads on from the trip
    out_is : outgoing priced.day a ≡ Some leads.number
    unfolding outgoing
    out_is = place_is arriving_in priced.day.links a leads.number leads.link (links.arriving_once a) leads.at
        (subst (λ (t : ℕ). 1 ≤ count_of t (arriving_in leads.link.kind)) leads.from (from_named leads.link.kind))

    graph : (edges : List Edge) × (slice_get priced.graphs leads.number ≡ Some edges)
    graph = entry_below priced.graphs leads.number (let below = slice_get_within priced.day.links leads.number leads.link leads.at in omega (arith, below, graphs.count))

    edges_are : edges_of priced (outgoing priced.day a) ≡ graph.0
    edges_are = ap (edges_of priced) out_is ∙ ap (λ (o : Option (List Edge)). unwrap_or o []) graph.1

    prices_are : (edge : Edge) → price_of priced (outgoing priced.day a) edge ≡ price_by_link priced leads.number (Some leads.link) edge
    prices_are edge = ap (λ (o : Option ℕ). price_of priced o edge) out_is ∙ ap (λ (o : Option Link). price_by_link priced leads.number o edge) leads.at

    one_link : (edge : Edge) (allowed : IsEdge priced.day leads.number edge) → IsKindEdge priced.day leads.link.kind leads.link.reverse edge
    one_link edge allowed =
        let some : Some allowed.link ≡ Some leads.link = sym allowed.at ∙ leads.at in
        let same : allowed.link ≡ leads.link = cc in
        subst (λ (x : Link). IsKindEdge priced.day x.kind x.reverse edge) same allowed.kind

    -- what the link adds is the value of its edge
    value_is : (edge : Edge) (allowed : IsEdge priced.day leads.number edge) → edge.from ≡ pick_of picks a → edge.to ≡ pick_of picks b
        → edge_value priced.day priced.entries priced.weight leads.number leads.link.kind edge ≡ value_of_link leads.link leads.number
    value_is edge allowed from to =
        sym (edge_is priced.day priced.entries priced.weight lists leads.number leads.link leads.at edge (one_link edge allowed)
        (list_from ∙ ap (composition_at priced.day) (sym from)) (list_to ∙ ap (composition_at priced.day) (sym to)))

    -- near picks have a step
    near_step : IsNearAt priced picks leads.number leads.link → IsStepAt (stage_of priced a) (pick_of picks a) (pick_of picks b) (value_of_link leads.link leads.number)
    near_step near =
        let edge : Edge = near.step.edge in
        record {
          edge = edge;
          there = subst (λ (edges : List Edge). Contains edges edge) (sym edges_are) (((graphs.each leads.number graph.0 graph.1).exact edge).1 near.step.allowed);
          origin = near.step.from ∙ from_is;
          goal = near.step.to ∙ to_is;
          priced = prices_are edge
              ∙ cond-true (part_is_in priced.region (second_of leads.link.kind) edge.part) (Some (edge_value priced.day priced.entries priced.weight leads.number leads.link.kind edge)) None near.part
              ∙ ap (λ (v : ℤ). Some v) (value_is edge near.step.allowed (near.step.from ∙ from_is) (near.step.to ∙ to_is));
        }

    pub record HasStep (value : ℤ) : Type 0 where
      pub near : IsNearAt priced picks leads.number leads.link
      pub same : value ≡ value_of_link leads.link leads.number

    -- and where there is a step, they are near
    step_near : (value : ℤ) → IsStepAt (stage_of priced a) (pick_of picks a) (pick_of picks b) value → HasStep value
    step_near value step =
        let edge : Edge = step.edge in
        let allowed : IsEdge priced.day leads.number edge = ((graphs.each leads.number graph.0 graph.1).exact edge).0 (subst (λ (edges : List Edge). Contains edges edge) edges_are step.there) in
        let both = cond_some (part_is_in priced.region (second_of leads.link.kind) edge.part) (edge_value priced.day priced.entries priced.weight leads.number leads.link.kind edge) value
        (sym (prices_are edge) ∙ step.priced) in
        record {
          near = record { step = record { edge = edge; allowed = allowed; from = step.origin ∙ sym from_is; to = step.goal ∙ sym to_is }; part = both.0 };
          same = sym both.1 ∙ value_is edge allowed step.origin step.goal;
        }

  -- ---- a chain

  -- what the link adds that leads to a trip, and what the trip adds with it
  abbrev pub into : ℕ → ℤ
  into t = adds_to departing_in leads_to to_named priced.day.links links.departing_once (λ l link. value_of_link link l) t

  abbrev pub total_on : ℕ → ℤ
  total_on t = priced_cost_on t +ℤ into t

  into_led : (a b : ℕ) (leads : Leads priced.day a b) → into b ≡ value_of_link leads.link leads.number
  into_led a b leads =
      let here : 1 ≤ count_of b (departing_in leads.link.kind) = subst (λ (t : ℕ). 1 ≤ count_of t (departing_in leads.link.kind)) leads.to (to_named leads.link.kind) in
      adds_one departing_in leads_to to_named priced.day.links links.departing_once (λ l link. value_of_link link l) b leads.number leads.link leads.at here
      ∙ subst (λ (t : ℕ). only_at (leads_to leads.link.kind) (value_of_link leads.link leads.number) t ≡ value_of_link leads.link leads.number) leads.to
      (only_here (leads_to leads.link.kind) (value_of_link leads.link leads.number))

  pub into_none : (t : ℕ) → ((a : ℕ) → Leads priced.day a t → ⊥) → into t ≡ pos 0
  into_none t none = adds_none departing_in leads_to to_named priced.day.links links.departing_once (λ l link. value_of_link link l) t
      (λ l link at to. none (leads_from link.kind) (record { number = l; link = link; at = at; from = refl; to = to }))

  -- near at the links that lead to a trip
  abbrev pub IsNearInto : ℕ → Type 0
  IsNearInto t = (l : ℕ) (link : Link) → slice_get priced.day.links l ≡ Some link → leads_to link.kind ≡ t → IsNearAt priced picks l link

  abbrev pub AreBelow : List ℕ → Type 0
  AreBelow chain = (u : ℕ) → 1 ≤ count_of u chain → u < length priced.day.trips

  head_in : (t : ℕ) (ts : List ℕ) → 1 ≤ count_of t (t ∷ ts)
  head_in t ts = omega (arith, one_same t t refl)

  rest_in : (u t : ℕ) (ts : List ℕ) → 1 ≤ count_of u ts → 1 ≤ count_of u (t ∷ ts)
  rest_in u t ts here = omega (arith, here)

  head_or_rest : (u t : ℕ) (ts : List ℕ) → 1 ≤ count_of u (t ∷ ts) → (t ≡ u) ⊎ (1 ≤ count_of u ts)
  head_or_rest u t ts here = elim (cases_eq t u) [
    | inl same ↦ inl same
    | inr differ ↦ inr (omega (arith, here, one_other t u differ))
  ]

  -- a path and what it comes to, with what the link adds that leads to its first trip
  pub record HasPath (t : ℕ) (ts : List ℕ) : Type 0 where
    pub value : ℤ
    pub path : IsPath (stages_of priced (t ∷ ts)) (along picks (t ∷ ts)) value
    pub total : into t +ℤ value ≡ int_sum total_on (t ∷ ts)

  one_total : (i w : ℤ) → i +ℤ w ≡ w +ℤ i +ℤ pos 0
  one_total i w = omega (arith, ints)

  more_total : (i w j v r s : ℤ) → j ≡ v → j +ℤ r ≡ s → i +ℤ (w +ℤ (v +ℤ r)) ≡ w +ℤ i +ℤ s
  more_total i w j v r s e f = omega (arith, ints, e, f)

  pub near_path : (t : ℕ) (ts : List ℕ) → EachFollows (Leads priced.day) (t ∷ ts) → AreBelow (t ∷ ts) → ((u : ℕ) → u < length priced.day.trips → IsNearOn priced picks u)
      → ((u : ℕ) → u < length priced.day.trips → IsNearInto u) → HasPath t ts
  near_path t [] follows below on into_all = record {
    value = priced_cost_on t;
    path = near_priced_cost t (on t (below t (head_in t [])));
    total = one_total (into t) (priced_cost_on t);
  }
  near_path t (next ∷ ts) follows below on into_all =
      let leads : Leads priced.day t next = follows.0 in
      let rest : HasPath next ts = near_path next ts follows.1 (λ u here. below u (rest_in u t (next ∷ ts) here)) on into_all in
      let t_below : t < length priced.day.trips = below t (head_in t (next ∷ ts)) in
      let next_below : next < length priced.day.trips = below next (rest_in next t (next ∷ ts) (head_in next ts)) in
      let step : ℤ = value_of_link leads.link leads.number in
      record {
        value = priced_cost_on t +ℤ (step +ℤ rest.value);
        path = (
          priced_cost_on t,
          step,
          rest.value,
          near_priced_cost t (on t t_below),
          near_step t next leads t_below next_below (into_all next next_below leads.number leads.link leads.at leads.to),
          rest.path,
          refl,
        );
        total = more_total (into t) (priced_cost_on t) (into next) step rest.value (int_sum total_on (next ∷ ts)) (into_led t next leads) rest.total;
      }

  -- the other way
  pub record IsNearAlong (t : ℕ) (ts : List ℕ) (value : ℤ) : Type 0 where
    pub on : (u : ℕ) → 1 ≤ count_of u (t ∷ ts) → IsNearOn priced picks u
    pub led : (u : ℕ) → 1 ≤ count_of u ts → IsNearInto u
    pub total : into t +ℤ value ≡ int_sum total_on (t ∷ ts)

  -- one link leads to a trip
  one_leads : (a b : ℕ) (leads : Leads priced.day a b) → IsNearAt priced picks leads.number leads.link → IsNearInto b
  one_leads a b leads near l link at to =
      let mine : Some leads.number ≡ Some l =
      sym (place_is departing_in priced.day.links b leads.number leads.link (links.departing_once b) leads.at (subst (λ (t : ℕ). 1 ≤ count_of t (departing_in leads.link.kind)) leads.to (to_named leads.link.kind)))
      ∙ place_is departing_in priced.day.links b l link (links.departing_once b) at (subst (λ (t : ℕ). 1 ≤ count_of t (departing_in link.kind)) to (to_named link.kind)) in
      let number : leads.number ≡ l = cc in
      let some : Some leads.link ≡ Some link = sym leads.at ∙ ap (slice_get priced.day.links) number ∙ at in
      let same : leads.link ≡ link = cc in
      subst (λ (x : Link). IsNearAt priced picks l x) same (subst (λ (k : ℕ). IsNearAt priced picks k leads.link) number near)

  pub path_near : (t : ℕ) (ts : List ℕ) (value : ℤ) → EachFollows (Leads priced.day) (t ∷ ts) → AreBelow (t ∷ ts)
      → IsPath (stages_of priced (t ∷ ts)) (along picks (t ∷ ts)) value → IsNearAlong t ts value
  path_near t [] value follows below path =
      let has : HasPricedCost t value = priced_cost_near t value path in
      record {
        on = λ u here. elim (head_or_rest u t [] here) [ inl same ↦ subst (IsNearOn priced picks) same has.near | inr none ↦ absurd (omega (arith, none)) ];
        led = λ u none. absurd (omega (arith, none));
        total = ap (λ (v : ℤ). into t +ℤ v) has.same ∙ one_total (into t) (priced_cost_on t);
      }
  path_near t (next ∷ ts) value follows below (here, step, rest, is_here, is_step, is_rest, total) =
      let leads : Leads priced.day t next = follows.0 in
      let t_below : t < length priced.day.trips = below t (head_in t (next ∷ ts)) in
      let next_below : next < length priced.day.trips = below next (rest_in next t (next ∷ ts) (head_in next ts)) in
      let has : HasPricedCost t here = priced_cost_near t here is_here in
      let stepped : HasStep t next leads t_below next_below step = step_near t next leads t_below next_below step is_step in
      let more : IsNearAlong next ts rest = path_near next ts rest follows.1 (λ u in_rest. below u (rest_in u t (next ∷ ts) in_rest)) is_rest in
      record {
        on = λ u in_all. elim (head_or_rest u t (next ∷ ts) in_all) [ inl same ↦ subst (IsNearOn priced picks) same has.near | inr later ↦ more.on u later ];
        led = λ u in_rest. elim (head_or_rest u next ts in_rest) [
          | inl same ↦ subst IsNearInto same (one_leads t next leads stepped.near)
          | inr later ↦ more.led u later
        ];
        total = ap (λ (v : ℤ). into t +ℤ v) (total ∙ ap (λ (v : ℤ). v +ℤ (step +ℤ rest)) has.same)
            ∙ more_total (into t) (priced_cost_on t) (into next) step rest (int_sum total_on (next ∷ ts)) (into_led t next leads ∙ sym stepped.same) more.total;
      }
