-- Picks are near a region exactly where they are paths along all chains, and their priced value is then the constant
-- and what the paths come to.
use Rattle.std.proofs.Common.{◌≡◌, ℕ, zero, suc, ◌+◌, ◌<◌, ◌≤◌, ◌⊎◌, List, [], ◌∷◌, length, Option, Some, None, IsTrue}
use Rattle.std.proofs.Common.{refl, sym, ap, ◌∙◌, subst, arith, ℤ, pos, ◌+ℤ◌, inl, inr, slice_get}
use Rattle.std.specs.Prelude.{◌==◌, if◌then◌else◌}
use Rattle.std.specs.List.{All}
use Rattle.std.proofs.lemmas.Bool.{cases_eq, cases_lt}
use Rattle.std.proofs.lemmas.Int.{ints}
use Rattle.std.proofs.lemmas.List.Elements.{All-head, All-tail}
use Rattle.rules.specs.declared.records.Link.{Link}
use Rattle.timetable.specs.Accepted.{AreLinks}
use Rattle.timetable.specs.Chains.{AreChains, IsChain, Leads, chains_of, leads_from, leads_to, times_in}
use Rattle.timetable.specs.Compositions.{composition_at}
use Rattle.timetable.specs.Handovers.{second_of}
use Rattle.timetable.specs.Links.{departing_in}
use Rattle.timetable.specs.Lists.{count_of}
use Rattle.timetable.specs.Picks.{picked}
use Rattle.timetable.proofs.LinkNames.{names_below}
use Rattle.timetable.proofs.Ones.{one_same, one_other}
use Rattle.transitions.specs.declared.edge.Edge.{Edge}
use Rattle.transitions.specs.Edges.{AreGraphs, IsEdge, IsKindEdge}
use Rattle.branch_tree.specs.Regions.{has}
use Rattle.branch_tree.specs.IntSums.{int_sum}
use Rattle.branch_tree.proofs.Lying.{picks_lie_by_trip}
use Rattle.price_bound.specs.ChainStages.{Priced, cost_on, part_is_in}
use Rattle.price_bound.specs.DayMeanings.{one_after_another}
use Rattle.price_bound.specs.FollowingPicks.{IsStep, part_of}
use Rattle.price_bound.specs.Near.{AreNear, LieIn}
use Rattle.price_bound.specs.Regrouped.{constant_of}
use Rattle.price_bound.proofs.ByLink.{adds_all}
use Rattle.price_bound.proofs.ChainValues.{AreBelow, HasPath, IsNearAlong, IsNearAt, IsNearInto, IsNearOn, into}
use Rattle.price_bound.proofs.ChainValues.{into_none, near_path, path_near, total_on, value_of_link, priced_cost_on}
use Rattle.price_bound.proofs.IntLaws.{below_add, below_none, below_same, int_below, only_at, only_here, only_other, only_within}
use Rattle.price_bound.proofs.IntLaws.{sum_append}
use Rattle.price_bound.proofs.Ordering.{count_joined}
use Rattle.price_bound.proofs.Regrouping.{to_named}
use Rattle.price_bound.proofs.Regrouped.{link_value, regrouped}
use Rattle.price_bound.proofs.Products.{ArePaths}
use Rattle.price_bound.proofs.Solving.{IsPart, LeadWithin, lead_within, list_picked, part_is, same_number}

-- ---- a sum over all trips is one over a list that has each once

-- a value so many times
abbrev times : ℕ → ℤ → ℤ
times zero v = pos 0
times (suc n) v = v +ℤ times n v

times_next : (x k n : ℕ) (f : ℕ → ℤ) → times ((if x == k then 1 else 0) + n) (f k) ≡ only_at x (f x) k +ℤ times n (f k)
times_next x k n f = elim (cases_eq x k) [
  | inl same ↦
      let one : (if x == k then 1 else 0) + n ≡ suc n = omega (arith, one_same x k same) in
      ap (λ (m : ℕ). times m (f k)) one ∙ ap (λ (v : ℤ). v +ℤ times n (f k)) (sym (subst (λ (j : ℕ). only_at x (f x) j ≡ f j) same (only_here x (f x))))
  | inr differ ↦
      let none : (if x == k then 1 else 0) + n ≡ n = omega (arith, one_other x k differ) in
      ap (λ (m : ℕ). times m (f k)) none ∙ plain (only_at x (f x) k) (times n (f k)) (only_other x k (f x) differ)
]
  where
    plain : (a b : ℤ) → a ≡ pos 0 → b ≡ a +ℤ b
    plain a b e = omega (arith, ints, e)

sum_times : (f : ℕ → ℤ) (n : ℕ) (xs : List ℕ) → ((u : ℕ) → 1 ≤ count_of u xs → u < n) → int_sum f xs ≡ int_below (λ u. times (count_of u xs) (f u)) n
sum_times f n [] within = sym (below_none (λ u. pos 0) n (λ u lt. refl))
sum_times f n (x ∷ xs) within =
    let here : x < n = within x (omega (arith, one_same x x refl)) in
    both (f x) (int_sum f xs) (int_below (only_at x (f x)) n) (int_below (λ u. times (count_of u xs) (f u)) n) (int_below (λ u. times (count_of u (x ∷ xs)) (f u)) n)
    (only_within x (f x) n here) (sum_times f n xs (λ u there. within u (omega (arith, there))))
    (below_same (λ u. times (count_of u (x ∷ xs)) (f u)) (λ u. only_at x (f x) u +ℤ times (count_of u xs) (f u)) n (λ u lt. times_next x u (count_of u xs) f)
    ∙ below_add (only_at x (f x)) (λ u. times (count_of u xs) (f u)) n)
  where
    both : (v s o r t : ℤ) → o ≡ v → s ≡ r → t ≡ o +ℤ r → v +ℤ s ≡ t
    both v s o r t e f g = omega (arith, ints, e, f, g)

-- a list that has each number below a bound once, and no others
pub each_once_sum : (f : ℕ → ℤ) (n : ℕ) (xs : List ℕ) → ((u : ℕ) → u < n → count_of u xs ≡ 1) → ((u : ℕ) → n ≤ u → count_of u xs ≡ 0) → int_sum f xs ≡ int_below f n
each_once_sum f n xs once none =
    sum_times f n xs (λ u there. elim (cases_lt u n) [ inl lt ↦ lt | inr past ↦ absurd (omega (arith, there, none u past)) ])
    ∙ below_same (λ u. times (count_of u xs) (f u)) f n (λ u lt. ap (λ (k : ℕ). times k (f u)) (once u lt) ∙ plain (f u))
  where
    plain : (v : ℤ) → v +ℤ pos 0 ≡ v
    plain v = omega (arith, ints)

module _ (priced : Priced) (picks : List ℕ) (links : AreLinks priced.day) (graphs : AreGraphs priced.day priced.graphs) (long : length picks ≡ length priced.day.trips) where
  -- ---- all chains

  abbrev total : ℕ → ℤ
  total = total_on priced picks links graphs long

  below_first : (t : ℕ) (ts : List ℕ) (chains : List (List ℕ)) → ((u : ℕ) → 1 ≤ times_in ((t ∷ ts) ∷ chains) u → u < length priced.day.trips) → AreBelow priced picks links graphs long (t ∷ ts)
  below_first t ts chains below u here = below u (omega (arith, here))

  pub record HavePaths (chains : List (List ℕ)) : Type 0 where
    pub value : ℤ
    pub paths : ArePaths priced chains picks value
    pub total : value ≡ int_sum (total_on priced picks links graphs long) (one_after_another chains)

  pub near_paths : (chains : List (List ℕ)) → All (IsChain priced.day) chains → ((u : ℕ) → 1 ≤ times_in chains u → u < length priced.day.trips)
      → ((u : ℕ) → u < length priced.day.trips → IsNearOn priced picks u) → ((u : ℕ) → u < length priced.day.trips → IsNearInto priced picks links graphs long u) → HavePaths chains
  near_paths [] each below on led = record { value = pos 0; paths = refl; total = refl }
  near_paths ([] ∷ chains) each below on led = absurd ((All-head (IsChain priced.day) [] chains each).begins)
  near_paths ((t ∷ ts) ∷ chains) each below on led =
      let chain : IsChain priced.day (t ∷ ts) = All-head (IsChain priced.day) (t ∷ ts) chains each in
      let here : HasPath priced picks links graphs long t ts = near_path priced picks links graphs long t ts chain.follows (below_first t ts chains below) on led in
      let rest : HavePaths chains = near_paths chains (All-tail (IsChain priced.day) (t ∷ ts) chains each) (λ u there. below u (omega (arith, there))) on led in
      record {
        value = here.value +ℤ rest.value;
        paths = (here.value, rest.value, here.path, rest.paths, refl);
        total = both (into priced picks links graphs long t) here.value (int_sum total (t ∷ ts)) rest.value (int_sum total (one_after_another chains)) (into_none priced picks links graphs long t chain.begins) here.total rest.total
            ∙ sym (sum_append total (t ∷ ts) (one_after_another chains));
      }
    where
      both : (i v s w r : ℤ) → i ≡ pos 0 → i +ℤ v ≡ s → w ≡ r → v +ℤ w ≡ s +ℤ r
      both i v s w r e f g = omega (arith, ints, e, f, g)

  pub record AreNearAlong (chains : List (List ℕ)) (value : ℤ) : Type 0 where
    pub on : (u : ℕ) → 1 ≤ times_in chains u → IsNearOn priced picks u
    pub led : (u : ℕ) → 1 ≤ times_in chains u → IsNearInto priced picks links graphs long u
    pub total : value ≡ int_sum (total_on priced picks links graphs long) (one_after_another chains)

  in_first_or_rest : (u : ℕ) (chain : List ℕ) (chains : List (List ℕ)) → 1 ≤ times_in (chain ∷ chains) u → (1 ≤ count_of u chain) ⊎ (1 ≤ times_in chains u)
  in_first_or_rest u chain chains there = elim (cases_lt 0 (count_of u chain)) [ inl some ↦ inl (omega (arith, some)) | inr none ↦ inr (omega (arith, there, none)) ]

  -- no link leads to the first trip of a chain
  none_led : (t : ℕ) → ((a : ℕ) → Leads priced.day a t → ⊥) → IsNearInto priced picks links graphs long t
  none_led t none l link at to = absurd (none (leads_from link.kind) (record { number = l; link = link; at = at; from = refl; to = to }))

  pub paths_near : (chains : List (List ℕ)) (value : ℤ) → All (IsChain priced.day) chains → ((u : ℕ) → 1 ≤ times_in chains u → u < length priced.day.trips)
      → ArePaths priced chains picks value → AreNearAlong chains value
  paths_near [] value each below paths = record { on = λ u there. absurd (omega (arith, there)); led = λ u there. absurd (omega (arith, there)); total = paths }
  paths_near ([] ∷ chains) value each below paths = absurd ((All-head (IsChain priced.day) [] chains each).begins)
  paths_near ((t ∷ ts) ∷ chains) value each below (here, rest, path, paths, sum) =
      let chain : IsChain priced.day (t ∷ ts) = All-head (IsChain priced.day) (t ∷ ts) chains each in
      let along_it : IsNearAlong priced picks links graphs long t ts here = path_near priced picks links graphs long t ts here chain.follows (below_first t ts chains below) path in
      let later : AreNearAlong chains rest = paths_near chains rest (All-tail (IsChain priced.day) (t ∷ ts) chains each) (λ u there. below u (omega (arith, there))) paths in
      record {
        on = λ u there. elim (in_first_or_rest u (t ∷ ts) chains there) [ inl first ↦ along_it.on u first | inr more ↦ later.on u more ];
        led = λ u there. elim (in_first_or_rest u (t ∷ ts) chains there) [
          | inl first ↦ elim (cases_eq t u) [
            | inl same ↦ subst (IsNearInto priced picks links graphs long) same (none_led t chain.begins)
            | inr differ ↦ along_it.led u (omega (arith, first, one_other t u differ))
          ]
          | inr more ↦ later.led u more
        ];
        total = both (into priced picks links graphs long t) here (int_sum total (t ∷ ts)) rest (int_sum total (one_after_another chains)) value (into_none priced picks links graphs long t chain.begins) along_it.total later.total sum
            ∙ sym (sum_append total (t ∷ ts) (one_after_another chains));
      }
    where
      both : (i v s w r t : ℤ) → i ≡ pos 0 → i +ℤ v ≡ s → w ≡ r → t ≡ v +ℤ w → t ≡ s +ℤ r
      both i v s w r t e f g h = omega (arith, ints, e, f, g, h)

  -- ---- the whole sum

  module _ (chains : AreChains priced.day (chains_of priced.day)) where
    abbrev all : List ℕ
    all = one_after_another (chains_of priced.day)

    -- over all trips and links
    pub total_is : int_sum total all ≡ int_below (priced_cost_on priced picks links graphs long) (length priced.day.trips)
        +ℤ int_below (link_value priced.day priced.entries priced.weight (picked priced.day picks)) (length priced.day.links)
    unfolding link_value
    total_is =
        each_once_sum total (length priced.day.trips) all (λ u lt. count_joined u (chains_of priced.day) ∙ chains.once u lt) (λ u past. count_joined u (chains_of priced.day) ∙ chains.known u past)
        ∙ below_add (priced_cost_on priced picks links graphs long) (into priced picks links graphs long) (length priced.day.trips)
        ∙ ap (λ (v : ℤ). int_below (priced_cost_on priced picks links graphs long) (length priced.day.trips) +ℤ v)
        (sym (adds_all departing_in leads_to to_named priced.day.links links.departing_once (λ l link. value_of_link priced picks links graphs long link l) (length priced.day.trips)
        (λ l link at. (lead_within (length priced.day.trips) link.kind (names_below priced.day links l link at)).to)))

    pub regrouped_is : (value : ℤ) → value ≡ int_sum total all
        → regrouped priced.day (cost_on priced) priced.entries priced.weight picks ≡ constant_of priced.day priced.entries +ℤ value
    unfolding regrouped
    regrouped_is value is =
        all_of (constant_of priced.day priced.entries) (int_below (priced_cost_on priced picks links graphs long) (length priced.day.trips))
        (int_below (link_value priced.day priced.entries priced.weight (picked priced.day picks)) (length priced.day.links)) value (is ∙ total_is)
      where
        all_of : (c w l v : ℤ) → v ≡ w +ℤ l → c +ℤ w +ℤ l ≡ c +ℤ v
        all_of c w l v e = omega (arith, ints, e)

    -- ---- near picks

    in_some : (u : ℕ) → u < length priced.day.trips → 1 ≤ times_in (chains_of priced.day) u
    in_some u lt = omega (arith, chains.once u lt)

    all_below : (u : ℕ) → 1 ≤ times_in (chains_of priced.day) u → u < length priced.day.trips
    all_below u there = elim (cases_lt u (length priced.day.trips)) [ inl lt ↦ lt | inr past ↦ absurd (omega (arith, there, chains.known u past)) ]

    kind_edge : (l : ℕ) (link : Link) (edge : Edge) → slice_get priced.day.links l ≡ Some link → IsEdge priced.day l edge → IsKindEdge priced.day link.kind link.reverse edge
    kind_edge l link edge at allowed =
        let some : Some allowed.link ≡ Some link = sym allowed.at ∙ at in
        let same : allowed.link ≡ link = cc in
        subst (λ (x : Link). IsKindEdge priced.day x.kind x.reverse edge) same allowed.kind

    -- the part of a link's edge
    edge_part : (l t : ℕ) (link : Link) → slice_get priced.day.links l ≡ Some link → second_of link.kind ≡ Some t → (step : IsStep priced.day picks l link)
        → IsPart priced.day step.edge (part_of link (picked priced.day picks))
    edge_part l t link at second step =
        let within : LeadWithin (length priced.day.trips) link.kind = lead_within (length priced.day.trips) link.kind (names_below priced.day links l link at) in
        part_is priced.day link.kind link.reverse step.edge (picked priced.day picks) t second (kind_edge l link step.edge at step.allowed)
        (list_picked priced.day picks (leads_from link.kind) (omega (arith, within.from, long)) ∙ ap (composition_at priced.day) (sym step.from))
        (list_picked priced.day picks (leads_to link.kind) (omega (arith, within.to, long)) ∙ ap (composition_at priced.day) (sym step.to))

    near_at : AreNear priced.day picks priced.region → (l : ℕ) (link : Link) → slice_get priced.day.links l ≡ Some link → IsNearAt priced picks l link
    near_at near l link at =
        let step : IsStep priced.day picks l link = near.follow.steps l link at in
        record { step = step; part = by_second (second_of link.kind) refl step }
      where
        by_second : (o : Option ℕ) → second_of link.kind ≡ o → (step : IsStep priced.day picks l link) → IsTrue (part_is_in priced.region o step.edge.part)
        by_second None second step = refl
        by_second (Some t) second step =
            let part : IsPart priced.day step.edge (part_of link (picked priced.day picks)) = edge_part l t link at second step in
            let lies : LieIn priced.day priced.region t (part_of link (picked priced.day picks)) = near.parts l t link at second in
            let same : lies.comp ≡ part.part = same_number priced.day lies.comp part.part lies.listed part.listed (lies.are ∙ sym part.are) in
            subst (λ (o : Option ℕ). IsTrue (part_is_in priced.region (Some t) o)) (sym part.of_edge) (subst (λ (k : ℕ). IsTrue (has priced.region t k)) same lies.inside)

    module _ (over : length priced.region ≡ length priced.day.trips) where
      pub near_have_paths : AreNear priced.day picks priced.region → HavePaths (chains_of priced.day)
      near_have_paths near =
          let inside = (picks_lie_by_trip picks priced.region).0 near.inside in
          near_paths (chains_of priced.day) chains.each all_below
          (λ u lt. record { runs = near.follow.run u lt; inside = inside.1 u (omega (arith, lt, over)) })
          (λ u lt l link at to. near_at near l link at)

      pub paths_are_near : (value : ℤ) → ArePaths priced (chains_of priced.day) picks value → AreNear priced.day picks priced.region
      paths_are_near value paths =
          let near : AreNearAlong (chains_of priced.day) value = paths_near (chains_of priced.day) value chains.each all_below paths in
          let at_link : (l : ℕ) (link : Link) → slice_get priced.day.links l ≡ Some link → IsNearAt priced picks l link =
          λ l link at. near.led (leads_to link.kind) (in_some (leads_to link.kind) (lead_within (length priced.day.trips) link.kind (names_below priced.day links l link at)).to) l link at refl in
          record {
            inside = (picks_lie_by_trip picks priced.region).1 (long ∙ sym over, λ u lt. (near.on u (in_some u (omega (arith, lt, over)))).inside);
            follow = record { trips = long; run = λ u lt. (near.on u (in_some u lt)).runs; steps = λ l link at. (at_link l link at).step };
            parts = λ l t link at second. lies l t link at second (at_link l link at);
          }
        where
          lies : (l t : ℕ) (link : Link) → slice_get priced.day.links l ≡ Some link → second_of link.kind ≡ Some t → IsNearAt priced picks l link
              → LieIn priced.day priced.region t (part_of link (picked priced.day picks))
          lies l t link at second near =
              let part : IsPart priced.day near.step.edge (part_of link (picked priced.day picks)) = edge_part l t link at second near.step in
              record {
                comp = part.part;
                listed = part.listed;
                are = part.are;
                inside = subst (λ (o : Option ℕ). IsTrue (part_is_in priced.region (Some t) o)) part.of_edge (subst (λ (o : Option ℕ). IsTrue (part_is_in priced.region o near.step.edge.part)) second near.part);
              }

      -- the value of picks that are paths
      pub paths_value : (value : ℤ) → ArePaths priced (chains_of priced.day) picks value
          → regrouped priced.day (cost_on priced) priced.entries priced.weight picks ≡ constant_of priced.day priced.entries +ℤ value
      paths_value value paths = regrouped_is value (paths_near (chains_of priced.day) value chains.each all_below paths).total
