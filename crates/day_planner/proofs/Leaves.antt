-- The nodes of a tree that proves what is said of a problem are within the limits of answer documents.
use Rattle.std.proofs.Common.{◌≡◌, ℕ, ◌<◌, ◌≤◌, List, [], ◌∷◌, ◌++◌, length, Bool, Option, Some, None, ◌∙◌}
use Rattle.std.proofs.Common.{subst, arith, ℤ, pos, ◌+ℤ◌}
use Rattle.std.specs.Prelude.{All, unsigned_abs}
use Rattle.std.proofs.lemmas.Int.{ints}
use Rattle.std.proofs.lemmas.List.{length-set}
use Rattle.std.proofs.lemmas.List.Elements.{All-cons, All-head, All-nil, All-tail}
use Rattle.rail_base.specs.declared.limits.TheConstants.{MAX_COMPOSITIONS, MAX_TRIPS}
use Rattle.timetable.specs.Day.{Day}
use Rattle.branch_tree.specs.declared.cuts.Cut.{Cut}
use Rattle.branch_tree.specs.declared.cuts.Cut.TheVariants.{Only, AtMost}
use Rattle.branch_tree.specs.declared.cuts.Side.TheVariants.{Left, Right}
use Rattle.branch_tree.specs.declared.multipliers.Entry.{Entry}
use Rattle.branch_tree.specs.declared.relaxation.Weight.TheVariants.{Cost}
use Rattle.branch_tree.specs.declared.tree.Node.{Node}
use Rattle.branch_tree.specs.declared.tree.Node.TheVariants.{Branch, CostLeaf, RayLeaf, EmptyLeaf}
use Rattle.branch_tree.specs.Bounds.{IsChainValue}
use Rattle.branch_tree.specs.Claims.{IsProvedAt}
use Rattle.branch_tree.specs.Cuts.{is_on, side_of, trip_of, IsProper}
use Rattle.branch_tree.specs.Entries.{AreMultipliers, DoFit}
use Rattle.branch_tree.specs.Meanings.{Meanings, priced}
use Rattle.branch_tree.specs.Regions.{set_at}
use Rattle.branch_tree.specs.Sets.{restricted}
use Rattle.branch_tree.specs.Trees.{KeepLimits, Walks, bounds_of, cut_of, multipliers_of, regions_below}
use Rattle.price_bound.specs.declared.sizes.TheConstants.{MAX_PRICED_VALUE}
use Rattle.answer_text.specs.Limits.{AreEntries, IsAmount, IsCut, IsNode}
use Rattle.day_planner.specs.Answerable.{IsAnswerable}

-- the region has a set for each trip
abbrev pub IsLong : ℕ → List (List Bool) → Type 0
IsLong trips region = length region ≡ trips

-- so have the sides of a cut
sides_long : (trips : ℕ) (catalogue : List (List ℕ)) (region : List (List Bool)) (found : Option Cut)
    (regions : List (List (List Bool)))
    → IsLong trips region → All (IsLong trips) regions
    → All (IsLong trips) (regions_below catalogue region found ++ regions)
sides_long trips catalogue region None regions long others = others
sides_long trips catalogue region (Some cut) regions long others =
    All-cons (IsLong trips) (side_of catalogue cut Left region) (side_of catalogue cut Right region ∷ regions)
    (length-set region (trip_of cut) (restricted (is_on catalogue cut Left) (set_at region (trip_of cut))) ∙ long)
    (All-cons (IsLong trips) (side_of catalogue cut Right region) regions
    (length-set region (trip_of cut) (restricted (is_on catalogue cut Right) (set_at region (trip_of cut))) ∙ long) others)

-- the numbers of a proper cut are within the limits
cut_within : (catalogue : List (List ℕ)) (region : List (List Bool)) (cut : Cut) → length region ≤ MAX_TRIPS
    → length catalogue ≤ MAX_COMPOSITIONS → IsProper catalogue region cut → IsCut cut
cut_within catalogue region (Only trip comp) long few proper =
    (omega (arith, proper.in_range.0, long), omega (arith, proper.in_range.1, few))
cut_within catalogue region (AtMost trip unit_type count) long few proper =
    (omega (arith, proper.in_range.0, long), proper.in_range.1, proper.in_range.2)

module _ (day : Day) (problem : Meanings) (root : List (List Bool)) (is : IsAnswerable day problem root) where
  -- the entries of multipliers that fit are within the limits
  entries_within : (entries : List Entry) → AreMultipliers entries
      → DoFit problem.indices problem.free_from entries → AreEntries entries
  entries_within entries keeps fits = record {
    multipliers = keeps;
    indices = λ k d below. omega (arith, (fits k d below).0, is.indices);
  }

  -- a chain value with cost is an amount
  value_within : (region : List (List Bool)) (entries : List Entry) (value : ℤ) → AreMultipliers entries
      → IsChainValue problem region entries Cost value → IsAmount value
  value_within region entries value keeps chain =
      let below : unsigned_abs (priced problem entries Cost chain.picks) < MAX_PRICED_VALUE =
      is.small chain.picks entries (is.relaxation.near_follow chain.picks region chain.near) keeps in
      let known : unsigned_abs value < MAX_PRICED_VALUE =
      subst (λ (v : ℤ). unsigned_abs v < MAX_PRICED_VALUE) chain.reached below in
      omega (arith, known)

  node_within : (region : List (List Bool)) (node : Node) → IsLong problem.trips region
      → IsProvedAt problem region node → AreMultipliers (multipliers_of node) → IsNode node
  node_within region (Branch cut) long proved keeps =
      cut_within problem.catalogue region cut (omega (arith, long, is.trips)) is.compositions proved.proper
  node_within region (CostLeaf bound entries) long proved keeps =
      (value_within region entries bound.0 keeps proved.bound, entries_within entries keeps proved.fitting)
  node_within region (RayLeaf entries) long proved keeps = entries_within entries keeps proved.fitting
  node_within region EmptyLeaf long proved keeps = tt

  -- the nodes of trees are within the limits
  pub nodes_within : (regions : List (List (List Bool))) (nodes : List Node) → All (IsLong problem.trips) regions
      → Walks cut_of problem.catalogue (IsProvedAt problem) regions nodes → KeepLimits nodes
      → All IsNode nodes
  nodes_within regions [] long walks keeps = All-nil IsNode
  nodes_within [] (node ∷ nodes) long walks keeps = absurd walks
  nodes_within (region ∷ regions) (node ∷ nodes) long walks keeps =
      let here : IsLong problem.trips region = All-head (IsLong problem.trips) region regions long in
      let others : All (IsLong problem.trips) regions =
      All-tail (IsLong problem.trips) region regions long in
      All-cons IsNode node nodes
      (node_within region node here walks.0
      (All-head (λ (n : Node). AreMultipliers (multipliers_of n)) node nodes keeps))
      (nodes_within (regions_below problem.catalogue region (cut_of node) ++ regions) nodes
      (sides_long problem.trips problem.catalogue region (cut_of node) regions here others) walks.1
      (All-tail (λ (n : Node). AreMultipliers (multipliers_of n)) node nodes keeps))

  -- the cost of picks that follow is an amount
  pub cost_within : (picks : List ℕ) (cost : ℤ) → problem.Follow picks → problem.cost picks ≡ cost → IsAmount cost
  cost_within picks cost follow same_cost =
      let none : AreMultipliers [] = record {
        rising = grind arith;
        not_zero = λ k d below. absurd (omega (arith, below));
        within = λ k d below. absurd (omega (arith, below));
        few = omega arith;
      } in
      let below : unsigned_abs (problem.cost picks +ℤ pos 0) < MAX_PRICED_VALUE =
      is.small picks [] follow none in
      let known : unsigned_abs (cost +ℤ pos 0) < MAX_PRICED_VALUE =
      subst (λ (c : ℤ). unsigned_abs (c +ℤ pos 0) < MAX_PRICED_VALUE) same_cost below in
      alone cost known
    where
      alone : (c : ℤ) → unsigned_abs (c +ℤ pos 0) < MAX_PRICED_VALUE → IsAmount c
      alone c below =
          let same : c +ℤ pos 0 ≡ c = omega (arith, ints) in
          let known : unsigned_abs c < MAX_PRICED_VALUE = subst (λ (n : ℤ). unsigned_abs n < MAX_PRICED_VALUE) same below in
          omega (arith, known)

-- the bounds of nodes within the limits are amounts
pub bounds_within : (nodes : List Node) → All IsNode nodes → All IsAmount (bounds_of nodes)
bounds_within [] within = All-nil IsAmount
bounds_within (Branch cut ∷ nodes) within = bounds_within nodes (All-tail IsNode (Branch cut) nodes within)
bounds_within (CostLeaf bound entries ∷ nodes) within =
    All-cons IsAmount bound.0 (bounds_of nodes) (All-head IsNode (CostLeaf bound entries) nodes within).0
    (bounds_within nodes (All-tail IsNode (CostLeaf bound entries) nodes within))
bounds_within (RayLeaf entries ∷ nodes) within = bounds_within nodes (All-tail IsNode (RayLeaf entries) nodes within)
bounds_within (EmptyLeaf ∷ nodes) within = bounds_within nodes (All-tail IsNode EmptyLeaf nodes within)
