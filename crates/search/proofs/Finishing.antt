-- What a search finds is proved by its tree, once no leaf is opens or all branchings that were granted are made.
use Rattle.std.proofs.Common.{◌≡◌, ℕ, zero, suc, ◌+◌, ◌*◌, ◌<◌, ◌≤◌, List, [], ◌∷◌, ◌++◌, length, reverse, All}
use Rattle.std.proofs.Common.{Contains, Bool, true, false, if◌then◌else◌, Option, Some, None, MatchOption, refl, sym}
use Rattle.std.proofs.Common.{ap, subst, arith, ◌∙◌, inl, inr, ◌⊎◌, ℤ, ◌≤ℤ◌}
use Rattle.std.proofs.lemmas.Int.{ints}
use Rattle.std.proofs.lemmas.List.{append-nil, length-append, length-map, length-reverse}
use Rattle.std.proofs.lemmas.List.Elements.{All-cons, All-nil, All-head, All-tail, All-contains, All-weaker}
use Rattle.rail_base.specs.declared.numbers.Money.{Money}
use Rattle.branch_tree.specs.declared.tree.Node.{Node}
use Rattle.branch_tree.specs.declared.tree.Node.TheVariants.{Branch, CostLeaf, RayLeaf, EmptyLeaf}
use Rattle.branch_tree.specs.Claims.{CostedPicks, Conclusion, optimal, infeasible, concluded_plan, IsPlanIn, IsProved, IsProvedAt}
use Rattle.branch_tree.specs.Claims.{IsRaisedAt, IsSettledAt, IsNotEvident, IsNotEvidentAt, DoBound, EndsInTime}
use Rattle.branch_tree.specs.Claims.{HasOpenLeaf, is_open, is_below, open_leaves_of}
use Rattle.branch_tree.specs.Meanings.{Meanings}
use Rattle.branch_tree.specs.Trees.{Walks, Covers, IsLeast, IsLeastOf, IsWhole, bounds_of, branchings_of, cut_of, regions_below}
use Rattle.branch_tree.proofs.Covering.{leaves_exceed_branches}
use Rattle.branch_tree.proofs.Walking.{covers_each, proved_at_each_node}
use Rattle.search.specs.declared.found.Best.{Best}
use Rattle.search.specs.declared.found.Found.{Found}
use Rattle.search.specs.declared.found.Found.TheVariants.{Bounded}
use Rattle.search.specs.declared.nodes.SearchNode.{SearchNode}
use Rattle.search.specs.declared.nodes.SearchNode.TheVariants.{Fixed, Pending}
use Rattle.search.specs.Frontiers.{is_open_node}
use Rattle.search.specs.Ends.{HasEnded, IsFoundBy, found_by, closed_by, bounded_by}
use Rattle.search.specs.Nodes.{CanBranch, IsNodeOf, IsPlaced, IsSearched, cut_at, tree_node, tree_nodes}
use Rattle.search.specs.Offers.{HasPlanIn}
use Rattle.search.specs.Conclusions.{IsSolved, nodes_found, plan_found, plan_in, bounded_with}
use Rattle.search.proofs.Below.{not_lower, not_lower_test}

-- ---- the tree

-- the nodes of a search as they stand in a tree
tree_walk : (catalogue : List (List ℕ)) (P : List (List Bool) → SearchNode → Type 0) (Q : List (List Bool) → Node → Type 0) → ((region : List (List Bool)) (node : SearchNode) → P region node → Q region (tree_node node)) →
    (regions : List (List (List Bool))) (nodes : List SearchNode) → Walks cut_at catalogue P regions nodes → Walks cut_of catalogue Q regions (tree_nodes nodes)
tree_walk catalogue P Q follows [] [] walks = tt
tree_walk catalogue P Q follows [] (node ∷ nodes) walks = absurd walks
tree_walk catalogue P Q follows (region ∷ regions) [] walks = absurd walks
tree_walk catalogue P Q follows (region ∷ regions) (node ∷ nodes) walks =
    (follows region node walks.0, tree_walk catalogue P Q follows (regions_below catalogue region (cut_at node) ++ regions) nodes walks.1)

evident_by : (problem : Meanings) (region : List (List Bool)) (node : SearchNode) → CanBranch problem region node → IsNotEvident problem region
evident_by problem region (Fixed node) can = absurd can
evident_by problem region (Pending node) can = can.not_evident

-- a tree of a search with its plan
record IsTreeOf (problem : Meanings) (root : List (List Bool)) (plan : Option CostedPicks) (nodes : List Node) : Type 0 where
  proved : Covers problem.catalogue (IsProvedAt problem) root nodes
  in_time : EndsInTime problem root plan nodes
  has : HasPlanIn problem root plan

tree_of : (problem : Meanings) (root : List (List Bool)) (best : Option CostedPicks) (nodes : List SearchNode) → IsSearched problem root best nodes → IsTreeOf problem root best (tree_nodes nodes)
tree_of problem root best nodes is = record {
  proved = tree_walk problem.catalogue (IsPlaced problem root best) (IsProvedAt problem) (λ region node placed. placed.known.proved) (root ∷ []) nodes is.walks;
  in_time = record {
    raised = tree_walk problem.catalogue (IsPlaced problem root best) (IsRaisedAt problem) (λ region node placed. placed.known.raised) (root ∷ []) nodes is.walks;
    settled = tree_walk problem.catalogue (IsPlaced problem root best) (IsSettledAt problem best) (λ region node placed. placed.known.settled) (root ∷ []) nodes is.walks;
    not_evident = tree_walk problem.catalogue (IsPlaced problem root best) (IsNotEvidentAt problem best) (λ region node placed opens. evident_by problem region node (placed.known.branches opens)) (root ∷ []) nodes is.walks;
  };
  has = is.plan;
}

has_plan : (problem : Meanings) (root : List (List Bool)) (plan : Option CostedPicks) → HasPlanIn problem root plan → MatchOption plan (Unit {0}) (IsPlanIn problem root)
has_plan problem root None has = tt
has_plan problem root (Some plan) has = has

proved_by : (problem : Meanings) (root : List (List Bool)) (plan : Option CostedPicks) (nodes : List Node) (conclusion : Conclusion) → IsTreeOf problem root plan nodes → concluded_plan conclusion ≡ plan → DoBound (bounds_of nodes) conclusion →
    IsProved problem root conclusion (branchings_of nodes) nodes
proved_by problem root plan nodes conclusion is same bound =
    let parts = (proved_at_each_node problem root nodes).0 is.proved in
    record {
      whole = (((covers_each (IsProvedAt problem) problem.catalogue root nodes).0 is.proved).0, refl);
      proper = parts.0;
      fitting = parts.1;
      bounds = parts.2;
      rays = parts.3;
      empty = parts.4;
      plan = subst (λ one. MatchOption one (Unit {0}) (IsPlanIn problem root)) (sym same) (has_plan problem root plan is.has);
      head = bound;
    }

pub whole_tree : (problem : Meanings) (root : List (List Bool)) (best : Option CostedPicks) (nodes : List SearchNode) → IsSearched problem root best nodes → IsWhole (tree_nodes nodes)
whole_tree problem root best nodes is = ((covers_each (IsProvedAt problem) problem.catalogue root (tree_nodes nodes)).0 (tree_of problem root best nodes is).proved).0

-- ---- opens leaves and bounds

if_none : (b : Bool) → ◌≡◌ {A = ℕ} (if b then 1 else 0) 0 → b ≡ false
if_none true e = absurd (omega (arith, e))
if_none false e = refl

none_open : (best : Option CostedPicks) (nodes : List Node) → open_leaves_of best nodes ≡ 0 → All (λ bound. is_below bound best ≡ false) (bounds_of nodes)
none_open best [] none = All-nil (λ bound. is_below bound best ≡ false)
none_open best (CostLeaf bound multipliers ∷ nodes) none =
    All-cons (λ number. is_below number best ≡ false) bound.0 (bounds_of nodes) (if_none (is_below bound.0 best) (omega (arith, none))) (none_open best nodes (omega (arith, none)))
none_open best (Branch cut ∷ nodes) none = none_open best nodes (omega (arith, none))
none_open best (RayLeaf multipliers ∷ nodes) none = none_open best nodes (omega (arith, none))
none_open best (EmptyLeaf ∷ nodes) none = none_open best nodes (omega (arith, none))

all_closed : (best : Option CostedPicks) (nodes : List Node) → All (λ bound. is_below bound best ≡ false) (bounds_of nodes) → open_leaves_of best nodes ≡ 0
all_closed best [] closed = refl
all_closed best (CostLeaf bound multipliers ∷ nodes) closed =
    let here : is_below bound.0 best ≡ false = All-head (λ number. is_below number best ≡ false) bound.0 (bounds_of nodes) closed in
    omega (arith, ap {B = ℕ} (λ (b : Bool). if b then 1 else 0) here, all_closed best nodes (All-tail (λ number. is_below number best ≡ false) bound.0 (bounds_of nodes) closed))
all_closed best (Branch cut ∷ nodes) closed = omega (arith, all_closed best nodes closed)
all_closed best (RayLeaf multipliers ∷ nodes) closed = omega (arith, all_closed best nodes closed)
all_closed best (EmptyLeaf ∷ nodes) closed = omega (arith, all_closed best nodes closed)

zero_or_more : (n : ℕ) → (n ≡ 0) ⊎ (0 < n)
zero_or_more zero = inl refl
zero_or_more (suc n) = inr (omega arith)

some_open : (best : Option CostedPicks) (nodes : List Node) (bound : ℤ) → Contains (bounds_of nodes) bound → is_below bound best ≡ true → 0 < open_leaves_of best nodes
some_open best nodes bound has below = elim (zero_or_more (open_leaves_of best nodes)) as (λ _. 0 < open_leaves_of best nodes) [
  | inl none ↦ absurd (let not : is_below bound best ≡ false = All-contains (λ number. is_below number best ≡ false) (bounds_of nodes) bound (none_open best nodes none) has in let no : true ≡ false = sym below ∙ not in cc)
  | inr some ↦ some
]

-- ---- what is found

plan_bounded : (bound : ℤ) (plan : Option CostedPicks) → concluded_plan (bounded_with bound plan) ≡ plan
plan_bounded bound None = refl
plan_bounded bound (Some plan) = refl

-- what is found has the tree and the best solution of the search
closed_nodes : (best : Option Best) (nodes : List Node) → (nodes_found (closed_by best nodes) ≡ nodes) × (plan_found (closed_by best nodes) ≡ plan_in best)
closed_nodes None nodes = (refl, refl)
closed_nodes (Some best) nodes = (refl, refl)

bounded_nodes : (below : Bool) (bound : Money) (best : Option Best) (nodes : List Node) → (nodes_found (bounded_by below bound best nodes) ≡ nodes) × (plan_found (bounded_by below bound best nodes) ≡ plan_in best)
bounded_nodes true bound best nodes = (refl, plan_bounded bound.0 (plan_in best))
bounded_nodes false bound best nodes = closed_nodes best nodes

pub found_nodes : (least : Option Money) (best : Option Best) (nodes : List Node) → (nodes_found (found_by least best nodes) ≡ nodes) × (plan_found (found_by least best nodes) ≡ plan_in best)
found_nodes None best nodes = closed_nodes best nodes
found_nodes (Some bound) best nodes = bounded_nodes (is_below bound.0 (plan_in best)) bound best nodes

do_bound : (bounds : List ℤ) (bound : ℤ) (plan : Option CostedPicks) → IsLeast bounds bound → DoBound bounds (bounded_with bound plan)
do_bound bounds bound None least = least
do_bound bounds bound (Some plan) least = least

not_some : (plan : CostedPicks) → Some plan ≡ None → ⊥
not_some plan same = cc

module _ (problem : Meanings) (root : List (List Bool)) (grant : ℕ) (best : Option Best) (nodes : List Node) (is : IsTreeOf problem root (plan_in best) nodes)
    (granted : branchings_of nodes ≤ grant) (ended : HasEnded grant (plan_in best) nodes) where
  solved_bounded : (bound : Money) → IsLeast (bounds_of nodes) bound.0 → is_below bound.0 (plan_in best) ≡ true → IsSolved problem root grant (Bounded best bound nodes)
  solved_bounded bound least below =
      let same : concluded_plan (bounded_with bound.0 (plan_in best)) ≡ plan_in best = plan_bounded bound.0 (plan_in best) in
      let some : 0 < open_leaves_of (plan_in best) nodes = some_open (plan_in best) nodes bound.0 least.one below in
      let opens : HasOpenLeaf (concluded_plan (bounded_with bound.0 (plan_in best))) nodes = subst (λ plan. HasOpenLeaf plan nodes) (sym same) some in
      let all : branchings_of nodes ≡ grant = elim ended as (λ _. branchings_of nodes ≡ grant) [ inl all ↦ all | inr none ↦ absurd (omega (arith, some, none)) ] in
      record {
        proved = proved_by problem root (plan_in best) nodes (bounded_with bound.0 (plan_in best)) is same (do_bound (bounds_of nodes) bound.0 (plan_in best) least);
        in_time = subst (λ plan. EndsInTime problem root plan nodes) (sym same) is.in_time;
        granted = granted;
        bounded = ((λ _. (all, opens)), (λ _. tt));
        infeasible = ((λ no. absurd no), (λ both. empty_holds (bounds_of nodes) bound.0 both.1 least.one));
        optimal = ((λ no. absurd no), (λ both. absurd (both.1 opens)));
      }
    where
      empty_holds : (bounds : List ℤ) (value : ℤ) → bounds ≡ [] → Contains bounds value → ⊥
      empty_holds bounds value none has = let len : length bounds ≡ 0 = ap length none in omega (arith, has.1, len)

  solved_closed : All (λ bound. is_below bound (plan_in best) ≡ false) (bounds_of nodes) → (plan_in best ≡ None → bounds_of nodes ≡ []) → (one : Option Best) → one ≡ best → IsSolved problem root grant (closed_by one nodes)
  solved_closed closed none_left None e =
      let no_plan : None ≡ plan_in best = ap plan_in e in
      let nothing : bounds_of nodes ≡ [] = none_left (sym no_plan) in
      let no_open : open_leaves_of None nodes ≡ 0 = subst (λ plan. open_leaves_of plan nodes ≡ 0) (sym no_plan) (all_closed (plan_in best) nodes closed) in
      record {
        proved = proved_by problem root (plan_in best) nodes infeasible is no_plan nothing;
        in_time = subst (λ plan. EndsInTime problem root plan nodes) (sym no_plan) is.in_time;
        granted = granted;
        bounded = ((λ no. absurd no), (λ both. omega (arith, both.1, no_open)));
        infeasible = ((λ _. (refl, nothing)), (λ _. tt));
        optimal = ((λ no. absurd no), (λ both. absurd (let none : false ≡ true = both.0 in cc)));
      }
  solved_closed closed none_left (Some one) e =
      let plan : CostedPicks = record { cost = one.cost.0; picks = one.picks } in
      let the_plan : Some plan ≡ plan_in best = ap plan_in e in
      let no_open : open_leaves_of (Some plan) nodes ≡ 0 = subst (λ found. open_leaves_of found nodes ≡ 0) (sym the_plan) (all_closed (plan_in best) nodes closed) in
      let shut : All (λ bound. is_below bound (Some plan) ≡ false) (bounds_of nodes) = subst (λ found. All (λ bound. is_below bound found ≡ false) (bounds_of nodes)) (sym the_plan) closed in
      record {
        proved = proved_by problem root (plan_in best) nodes (optimal plan) is the_plan
            (All-weaker (λ bound. is_below bound (Some plan) ≡ false) (λ bound. plan.cost ≤ℤ bound) (λ bound not_below. not_lower bound plan.cost not_below) (bounds_of nodes) shut);
        in_time = subst (λ found. EndsInTime problem root found nodes) (sym the_plan) is.in_time;
        granted = granted;
        bounded = ((λ no. absurd no), (λ both. omega (arith, both.1, no_open)));
        infeasible = ((λ no. absurd no), (λ both. not_some plan both.0));
        optimal = ((λ _. (refl, λ opens. omega (arith, opens, no_open))), (λ _. tt));
      }

  solved_at : (bound : Money) → IsLeast (bounds_of nodes) bound.0 → (below : Bool) → is_below bound.0 (plan_in best) ≡ below → IsSolved problem root grant (bounded_by below bound best nodes)
  solved_at bound least true e = solved_bounded bound least e
  solved_at bound least false e = solved_closed
      (All-weaker (λ number. bound.0 ≤ℤ number) (λ number. is_below number (plan_in best) ≡ false) (λ number above. closed_above bound.0 number (plan_in best) above e) (bounds_of nodes) least.all)
      (λ none. absurd (always_below (plan_in best) none e)) best refl
    where
      closed_above : (bound number : ℤ) (plan : Option CostedPicks) → bound ≤ℤ number → is_below bound plan ≡ false → is_below number plan ≡ false
      closed_above bound number None above closed = closed
      closed_above bound number (Some plan) above closed =
          let over : plan.cost ≤ℤ bound = not_lower bound plan.cost closed in not_lower_test number plan.cost (omega (arith, ints, above, over))

      always_below : (plan : Option CostedPicks) → plan ≡ None → is_below bound.0 plan ≡ false → ⊥
      always_below None none closed = let no : true ≡ false = closed in cc
      always_below (Some plan) none closed = not_some plan none

  solved_by : (least : Option Money) → IsLeastOf (bounds_of nodes) least → IsSolved problem root grant (found_by least best nodes)
  solved_by None none = solved_closed (subst (λ bounds. All (λ bound. is_below bound (plan_in best) ≡ false) bounds) (sym none) (All-nil (λ bound. is_below bound (plan_in best) ≡ false))) (λ _. none) best refl
  solved_by (Some bound) least = solved_at bound least (is_below bound.0 (plan_in best)) refl

pub solved : (problem : Meanings) (root : List (List Bool)) (grant : ℕ) (best : Option Best) (nodes : List SearchNode) (found : Found) → IsSearched problem root (plan_in best) nodes →
    branchings_of (tree_nodes nodes) ≤ grant → HasEnded grant (plan_in best) (tree_nodes nodes) → IsFoundBy best (tree_nodes nodes) found → IsSolved problem root grant found
solved problem root grant best nodes found is granted ended by =
    subst (λ one. IsSolved problem root grant one) (sym by.is)
    (solved_by problem root grant best (tree_nodes nodes) (tree_of problem root (plan_in best) nodes is) granted ended by.least by.is_least)

-- ---- the nodes as they are put into the tree

pub length-moved : (tree : List Node) (rest whole : List SearchNode) → tree ++ tree_nodes (reverse rest) ≡ tree_nodes whole → length tree + length rest ≡ length whole
length-moved tree rest whole all =
    let joined : length (tree ++ tree_nodes (reverse rest)) ≡ length (tree_nodes whole) = ap length all in
    omega (arith, joined, length-append tree (tree_nodes (reverse rest)), length-map (reverse rest) tree_node, length-map whole tree_node, length-reverse rest)

-- where nothing is left to move
pub all_moved : (tree : List Node) (rest whole : List SearchNode) → length rest ≡ 0 → tree ++ tree_nodes (reverse rest) ≡ tree_nodes whole → tree ≡ tree_nodes whole
all_moved tree [] whole none all = sym (append-nil tree) ∙ all
all_moved tree (node ∷ rest) whole none all = absurd (omega (arith, none))

pub length-tree : (problem : Meanings) (root : List (List Bool)) (best : Option CostedPicks) (nodes : List SearchNode) → IsSearched problem root best nodes → length nodes ≡ 2 * branchings_of (tree_nodes nodes) + 1
length-tree problem root best nodes is =
    omega (arith, leaves_exceed_branches (tree_nodes nodes) (whole_tree problem root best nodes is), length-map nodes tree_node)

-- ---- a frontier that is empty

-- a node that may not be branched is no open leaf
closed_node : (problem : Meanings) (best : Option CostedPicks) (region : List (List Bool)) (node : SearchNode) → IsNodeOf problem best region node → is_open_node best node ≡ false → is_open best (tree_node node) ≡ false
closed_node problem best region (Pending node) known closed = closed
closed_node problem best region (Fixed node) known closed = at (is_open best node) refl
  where
    at : (opens : Bool) → is_open best node ≡ opens → is_open best node ≡ false
    at true e = absurd (known.branches e)
    at false e = e

-- no leaf is open where no node may be branched
pub none_left : (problem : Meanings) (root : List (List Bool)) (best : Option CostedPicks) (regions : List (List (List Bool))) (nodes : List SearchNode) →
    Walks cut_at problem.catalogue (IsPlaced problem root best) regions nodes → All (λ node. is_open_node best node ≡ false) nodes → open_leaves_of best (tree_nodes nodes) ≡ 0
none_left problem root best [] [] walks closed = refl
none_left problem root best [] (node ∷ nodes) walks closed = absurd walks
none_left problem root best (region ∷ regions) [] walks closed = absurd walks
none_left problem root best (region ∷ regions) (node ∷ nodes) walks closed =
    let here : is_open best (tree_node node) ≡ false = closed_node problem best region node walks.0.known (All-head (λ one. is_open_node best one ≡ false) node nodes closed) in
    omega (
      arith,
      ap {B = ℕ} (λ (b : Bool). if b then 1 else 0) here,
      none_left problem root best (regions_below problem.catalogue region (cut_at node) ++ regions) nodes walks.1 (All-tail (λ one. is_open_node best one ≡ false) node nodes closed),
    )
