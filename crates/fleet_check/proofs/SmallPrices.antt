-- Bounds that are proved, the costs of plans that run, and what fleets cost are small.
use Rattle.std.proofs.Common.{◌≡◌, ℕ, ◌<◌, ◌≤◌, List, [], ◌∷◌, ◌++◌, Bool, sym, ap, subst, arith, ℤ, pos, ◌+ℤ◌}
use Rattle.std.specs.Prelude.{All, unsigned_abs}
use Rattle.std.proofs.lemmas.Int.{ints}
use Rattle.std.proofs.lemmas.List.Elements.{All-cons, All-head, All-nil, All-tail}
use Rattle.timetable.specs.Accepted.{IsSoundDay}
use Rattle.timetable.specs.Cost.{cost_of, plan_cost}
use Rattle.timetable.specs.Day.{Day}
use Rattle.timetable.specs.Picks.{IsSolution}
use Rattle.timetable.specs.Running.{Runs}
use Rattle.branch_tree.specs.declared.multipliers.Entry.{Entry}
use Rattle.branch_tree.specs.declared.relaxation.Weight.TheVariants.{Cost}
use Rattle.branch_tree.specs.declared.tree.Node.{Node}
use Rattle.branch_tree.specs.declared.tree.Node.TheVariants.{Branch, CostLeaf, RayLeaf, EmptyLeaf}
use Rattle.branch_tree.specs.Bounds.{IsChainValue}
use Rattle.branch_tree.specs.Claims.{IsBoundAt, IsProved, bounded}
use Rattle.branch_tree.specs.Entries.{AreMultipliers}
use Rattle.branch_tree.specs.Meanings.{priced}
use Rattle.branch_tree.specs.Regions.{root_of}
use Rattle.branch_tree.specs.Trees.{KeepLimits, Walks, bounds_of, cut_of, multipliers_of, regions_below}
use Rattle.branch_tree.proofs.Roots.{solutions_lie_in_roots}
use Rattle.price_bound.specs.declared.sizes.TheConstants.{MAX_PRICED_VALUE}
use Rattle.price_bound.specs.DayMeanings.{meanings_of}
use Rattle.price_bound.specs.FollowingPicks.{Follow}
use Rattle.price_bound.proofs.Planned.{plans_have_picks, solved_by}
use Rattle.price_bound.proofs.SmallValues.{values_are_small}
use Rattle.price_bound.proofs.Whole.{relaxes}

-- ---- bounds that are proved

abbrev pub IsSmallAmount : ℤ → Type 0
IsSmallAmount amount = unsigned_abs amount < MAX_PRICED_VALUE

module _ (day : Day) (sound : IsSoundDay day) where
  small_at : (region : List (List Bool)) (entries : List Entry) (value : ℤ) → AreMultipliers entries
      → IsChainValue (meanings_of day) region entries Cost value → IsSmallAmount value
  small_at region entries value keeps chain =
      subst IsSmallAmount chain.reached
      (values_are_small day chain.picks entries Cost sound ((relaxes day sound).near_follow chain.picks region chain.near) keeps)

  small_bounds : (regions : List (List (List Bool))) (nodes : List Node)
      → Walks cut_of (meanings_of day).catalogue (IsBoundAt (meanings_of day)) regions nodes → KeepLimits nodes
      → All IsSmallAmount (bounds_of nodes)
  small_bounds regions [] walks keeps = All-nil IsSmallAmount
  small_bounds [] (node ∷ nodes) walks keeps = absurd walks
  small_bounds (region ∷ regions) (Branch cut ∷ nodes) walks keeps =
      small_bounds (regions_below (meanings_of day).catalogue region (cut_of (Branch cut)) ++ regions) nodes walks.1
      (All-tail (λ (n : Node). AreMultipliers (multipliers_of n)) (Branch cut) nodes keeps)
  small_bounds (region ∷ regions) (CostLeaf bound entries ∷ nodes) walks keeps =
      All-cons IsSmallAmount bound.0 (bounds_of nodes)
      (small_at region entries bound.0 (All-head (λ (n : Node). AreMultipliers (multipliers_of n)) (CostLeaf bound entries) nodes keeps) walks.0)
      (small_bounds regions nodes walks.1
      (All-tail (λ (n : Node). AreMultipliers (multipliers_of n)) (CostLeaf bound entries) nodes keeps))
  small_bounds (region ∷ regions) (RayLeaf entries ∷ nodes) walks keeps =
      small_bounds regions nodes walks.1 (All-tail (λ (n : Node). AreMultipliers (multipliers_of n)) (RayLeaf entries) nodes keeps)
  small_bounds (region ∷ regions) (EmptyLeaf ∷ nodes) walks keeps =
      small_bounds regions nodes walks.1 (All-tail (λ (n : Node). AreMultipliers (multipliers_of n)) EmptyLeaf nodes keeps)

  -- a bound that is proved of the day
  pub proved_bound_is_small : (bound : ℤ) (branchings : ℕ) (nodes : List Node) → KeepLimits nodes
      → IsProved (meanings_of day) (root_of day) (bounded bound) branchings nodes → IsSmallAmount bound
  proved_bound_is_small bound branchings nodes keeps proved =
      let (k, lt, e) = proved.head.one in
      subst IsSmallAmount e (small_bounds (root_of day ∷ []) nodes proved.bounds keeps k bound lt)

  -- the cost of a plan that runs
  pub plan_cost_is_small : (plan : List (List ℕ)) → Runs day plan → plan_cost day plan < MAX_PRICED_VALUE
  plan_cost_is_small plan runs =
      let some = plans_have_picks day plan runs in
      let solves : IsSolution day some.0 = solved_by day plan some.0 some.1 in
      let inside = solutions_lie_in_roots day some.0 sound solves in
      let follow : Follow day some.0 = (relaxes day sound).near_follow some.0 (root_of day) ((relaxes day sound).solution_near some.0 (root_of day) solves inside) in
      let small : unsigned_abs (priced (meanings_of day) [] Cost some.0) < MAX_PRICED_VALUE = values_are_small day some.0 [] Cost sound follow none in
      alone (plan_cost day plan)
      (subst (λ (n : ℕ). unsigned_abs (pos n +ℤ pos 0) < MAX_PRICED_VALUE) (ap (cost_of day) some.1.types) small)
    where
      none : AreMultipliers []
      none = record {
        rising = grind arith;
        not_zero = λ k d below. absurd (omega (arith, below));
        within = λ k d below. absurd (omega (arith, below));
        few = omega arith;
      }

      alone : (n : ℕ) → unsigned_abs (pos n +ℤ pos 0) < MAX_PRICED_VALUE → n < MAX_PRICED_VALUE
      alone n below =
          let same : pos n +ℤ pos 0 ≡ pos n = omega (arith, ints) in
          let known : unsigned_abs (pos n) < MAX_PRICED_VALUE = subst (λ (z : ℤ). unsigned_abs z < MAX_PRICED_VALUE) same below in known

-- an amount that is a number is as small
pub small_number : (amount : ℤ) (n most : ℕ) → amount ≡ pos n → n ≤ most → unsigned_abs amount ≤ most
small_number amount n most is few = subst (λ (z : ℤ). unsigned_abs z ≤ most) (sym is) few
