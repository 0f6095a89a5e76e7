-- The nodes of a search after a branching.
use Rattle.std.proofs.Common.{◌≡◌, ℕ, zero, suc, ◌+◌, ◌<◌, ◌≤◌, List, [], ◌∷◌, ◌++◌, length, get_or, take, drop, set}
use Rattle.std.proofs.Common.{Bool, true, false, IsTrue, if◌then◌else◌, Option, Some, None, refl, sym, ap, subst, arith}
use Rattle.std.proofs.Common.{◌∙◌, inl, inr, ℤ}
use Rattle.std.specs.List.{insert}
use Rattle.std.proofs.lemmas.List.{append_assoc, length-set}
use Rattle.std.proofs.Math.Seq.{split_at}
use Rattle.branch_tree.specs.declared.cuts.Cut.{Cut}
use Rattle.branch_tree.specs.declared.cuts.Side.{Side}
use Rattle.branch_tree.specs.declared.cuts.Side.TheVariants.{Left, Right}
use Rattle.branch_tree.specs.declared.tree.Node.{Node}
use Rattle.branch_tree.specs.declared.tree.Node.TheVariants.{Branch, CostLeaf, RayLeaf, EmptyLeaf}
use Rattle.branch_tree.specs.Claims.{CostedPicks, IsSettledAt, is_open, is_below, open_leaves_of}
use Rattle.branch_tree.specs.Cuts.{IsProper, is_on, side_of, trip_of}
use Rattle.branch_tree.specs.Laws.{IsDivided}
use Rattle.branch_tree.specs.Meanings.{Meanings, IsRelaxation, DoFitFor}
use Rattle.branch_tree.specs.Regions.{IsOver, IsSingle, are_in, has, set_at}
use Rattle.branch_tree.specs.Sets.{restricted}
use Rattle.branch_tree.specs.Trees.{Walks, branchings_of, cut_of, regions_below, regions_left}
use Rattle.branch_tree.proofs.Covering.{trip_inside}
use Rattle.branch_tree.proofs.Dividing.{cuts_divide}
use Rattle.branch_tree.proofs.Over.{sides_are_over}
use Rattle.branch_tree.proofs.Settling.{single_picks_are_evident}
use Rattle.branch_tree.proofs.Walking.{walks_graft, walks_map}
use Rattle.search.specs.declared.nodes.Division.{Division}
use Rattle.search.specs.declared.nodes.PendingNode.{PendingNode}
use Rattle.search.specs.declared.nodes.SearchNode.{SearchNode}
use Rattle.search.specs.declared.nodes.SearchNode.TheVariants.{Fixed, Pending}
use Rattle.search.specs.Ends.{made_or_open}
use Rattle.search.specs.Nodes.{IsLeafOf, IsNodeOf, IsDivision, IsDivisionAt, IsPending, IsPlaced, IsSearched, IsSubregion}
use Rattle.search.specs.Nodes.{CanBranch, branched, cut_at, tree_node, tree_nodes}
use Rattle.search.specs.Offers.{HasCheaperIn, HasPlanIn, IsOffered}
use Rattle.search.proofs.Below.{no_better_on}
use Rattle.search.proofs.Evaluating.{offered_again}

-- ---- a node in its region

-- the region of the node at a place, and what is known of it there
pub record IsPlacedAt {N : Type 0} (cut_of : N → Option Cut) (catalogue : List (List ℕ)) (P : List (List Bool) → N → Type 0) (regions : List (List (List Bool))) (nodes : List N) (place : ℕ) (node : N) :
    Type 0 where
  pub region : List (List Bool)
  pub left : List (List (List Bool))
  pub here : regions_left cut_of catalogue regions (take place nodes) ≡ region ∷ left
  pub fact : P region node

pub placed_at : {N : Type 0} → (cut_of : N → Option Cut) (catalogue : List (List ℕ)) (P : List (List Bool) → N → Type 0) (regions : List (List (List Bool))) (nodes : List N) (place : ℕ) (node : N) →
    place < length nodes → node ≡ get_or nodes place node → Walks cut_of catalogue P regions nodes → IsPlacedAt cut_of catalogue P regions nodes place node
placed_at cut_of catalogue P regions [] place node within is walks = absurd (omega (arith, within))
placed_at cut_of catalogue P [] (first ∷ nodes) place node within is walks = absurd walks
placed_at cut_of catalogue P (region ∷ regions) (first ∷ nodes) zero node within is walks =
    record { region = region; left = regions; here = refl; fact = subst (λ at. P region at) (sym is) walks.0 }
placed_at cut_of catalogue P (region ∷ regions) (first ∷ nodes) (suc place) node within is walks =
    let later : IsPlacedAt cut_of catalogue P (regions_below catalogue region (cut_of first) ++ regions) nodes place node =
    placed_at cut_of catalogue P (regions_below catalogue region (cut_of first) ++ regions) nodes place node (omega (arith, within)) is walks.1 in
    record { region = later.region; left = later.left; here = later.here; fact = later.fact }

-- ---- the better the best solution, the less is asked of the nodes

open_before : (old new : Option CostedPicks) → ((bound : ℤ) → is_below bound new ≡ true → is_below bound old ≡ true) → (node : Node) → is_open new node ≡ true → is_open old node ≡ true
open_before old new dearer (Branch cut) opens = opens
open_before old new dearer (CostLeaf bound multipliers) opens = dearer bound.0 opens
open_before old new dearer (RayLeaf multipliers) opens = opens
open_before old new dearer EmptyLeaf opens = opens

settled_with : (problem : Meanings) (old new : Option CostedPicks) (region : List (List Bool)) (node : Node) → ((bound : ℤ) → is_below bound new ≡ true → is_below bound old ≡ true) → IsSettledAt problem old region node →
    IsSettledAt problem new region node
settled_with problem old new region (Branch cut) dearer is = is
settled_with problem old new region (CostLeaf bound multipliers) dearer is = (is.0, is.1, no_better_on problem old new is.0 dearer is.2)
settled_with problem old new region (RayLeaf multipliers) dearer is = is
settled_with problem old new region EmptyLeaf dearer is = is

pub node_with : (problem : Meanings) (old new : Option CostedPicks) (region : List (List Bool)) (node : SearchNode) → ((bound : ℤ) → is_below bound new ≡ true → is_below bound old ≡ true) →
    IsNodeOf problem old region node → IsNodeOf problem new region node
node_with problem old new region node dearer is = record {
  proved = is.proved;
  raised = is.raised;
  settled = settled_with problem old new region (tree_node node) dearer is.settled;
  branches = λ opens. is.branches (open_before old new dearer (tree_node node) opens);
}

placed_with : (problem : Meanings) (root : List (List Bool)) (old new : Option CostedPicks) → ((bound : ℤ) → is_below bound new ≡ true → is_below bound old ≡ true) → (region : List (List Bool)) (node : SearchNode) →
    IsPlaced problem root old region node → IsPlaced problem root new region node
placed_with problem root old new dearer region node is = record { known = node_with problem old new region node dearer is.known; over = is.over; within = is.within }

-- ---- a branching

-- what replaces a node: a proper cut of its region, and a leaf on each side
pub record IsBranching (problem : Meanings) (best : Option CostedPicks) (region : List (List Bool)) (cut : Cut) (left right : SearchNode) : Type 0 where
  pub proper : IsProper problem.catalogue region cut
  pub one : IsLeafOf problem best (side_of problem.catalogue cut Left region) left
  pub other : IsLeafOf problem best (side_of problem.catalogue cut Right region) right

within_side : (problem : Meanings) (root region : List (List Bool)) (cut : Cut) (side : Side) → IsProper problem.catalogue region cut → IsSubregion root region → IsSubregion root (side_of problem.catalogue cut side region)
within_side problem root region cut side proper within picks inside =
    let divided : IsDivided problem.catalogue cut region picks = cuts_divide problem.catalogue cut region picks (trip_inside problem.catalogue region cut proper.in_range) in
    within picks (divided.inside side inside)

side_placed : (problem : Meanings) (root region : List (List Bool)) (best : Option CostedPicks) (cut : Cut) (side : Side) (node : SearchNode) → IsProper problem.catalogue region cut →
    IsOver problem.trips problem.catalogue region → IsSubregion root region → IsLeafOf problem best (side_of problem.catalogue cut side region) node → IsPlaced problem root best (side_of problem.catalogue cut side region) node
side_placed problem root region best cut side node proper over within is = record {
  known = is.known;
  over = sides_are_over problem.trips problem.catalogue problem.catalogue cut side region over;
  within = within_side problem root region cut side proper within;
}

branch_placed : (problem : Meanings) (root region : List (List Bool)) (best : Option CostedPicks) (cut : Cut) → IsProper problem.catalogue region cut → IsOver problem.trips problem.catalogue region → IsSubregion root region →
    IsPlaced problem root best region (Fixed (Branch cut))
branch_placed problem root region best cut proper over within = record {
  known = record { proved = record { proper = proper; fitting = tt; bound = tt; ray = tt; empty = tt }; raised = tt; settled = tt; branches = λ opens. absurd (let no : false ≡ true = opens in cc) };
  over = over;
  within = within;
}

-- the nodes that replace a leaf are a tree over its region
new_walk : (problem : Meanings) (root region : List (List Bool)) (best : Option CostedPicks) (cut : Cut) (left right : SearchNode) → IsBranching problem best region cut left right →
    IsOver problem.trips problem.catalogue region → IsSubregion root region →
    Walks cut_at problem.catalogue (IsPlaced problem root best) (region ∷ []) (Fixed (Branch cut) ∷ left ∷ right ∷ [])
new_walk problem root region best cut left right is over within = (
  branch_placed problem root region best cut is.proper over within,
  (
    side_placed problem root region best cut Left left is.proper over within is.one,
    subst (λ found. Walks cut_at problem.catalogue (IsPlaced problem root best) (regions_below problem.catalogue (side_of problem.catalogue cut Left region) found ++ (side_of problem.catalogue cut Right region ∷ [])) (right ∷ []))
        (sym is.one.leaf) (
          side_placed problem root region best cut Right right is.proper over within is.other,
          subst (λ found. Walks cut_at problem.catalogue (IsPlaced problem root best) (regions_below problem.catalogue (side_of problem.catalogue cut Right region) found ++ []) [])
              (sym is.other.leaf) tt,
        ),
  ),
)

plan_kept : (problem : Meanings) (root : List (List Bool)) (old new : Option CostedPicks) → IsOffered problem root old new → HasPlanIn problem root old → HasPlanIn problem root new
plan_kept problem root old new offered plan = elim offered.either as (λ _. HasPlanIn problem root new) [
  | inl same ↦ subst (λ best. HasPlanIn problem root best) (sym same) plan
  | inr has ↦ widened new has
]
  where
    widened : (best : Option CostedPicks) → HasCheaperIn problem root old best → HasPlanIn problem root best
    widened None has = tt
    widened (Some plan) has = has.0

cut_before : (problem : Meanings) (region : List (List Bool)) (node : SearchNode) → CanBranch problem region node → cut_at node ≡ None
cut_before problem region (Fixed node) can = absurd can
cut_before problem region (Pending node) can = refl

-- the nodes after a branching are searched, as those before are
pub searched_on : (problem : Meanings) (root region : List (List Bool)) (old new : Option CostedPicks) (nodes : List SearchNode) (place : ℕ) (node : SearchNode) (cut : Cut) (left right : SearchNode) →
    place < length nodes → node ≡ get_or nodes place node → ((other : List (List Bool)) → CanBranch problem other node → other ≡ region) → is_open old (tree_node node) ≡ true →
    IsBranching problem new region cut left right → IsOffered problem root old new → IsSearched problem root old nodes → IsSearched problem root new (branched nodes place cut left right)
searched_on problem root region old new nodes place node cut left right within is own opens branching offered searched =
    let P : List (List Bool) → SearchNode → Type 0 = IsPlaced problem root new in
    let at : IsPlacedAt cut_at problem.catalogue (IsPlaced problem root old) (root ∷ []) nodes place node = placed_at cut_at problem.catalogue (IsPlaced problem root old) (root ∷ []) nodes place node within is searched.walks in
    let can : CanBranch problem at.region node = at.fact.known.branches opens in
    let same : at.region ≡ region = own at.region can in
    let over : IsOver problem.trips problem.catalogue region = subst (λ other. IsOver problem.trips problem.catalogue other) same at.fact.over in
    let inside : IsSubregion root region = subst (λ other. IsSubregion root other) same at.fact.within in
    let whole : Walks cut_at problem.catalogue P (root ∷ []) nodes =
    walks_map cut_at problem.catalogue (IsPlaced problem root old) P (placed_with problem root old new offered.no_dearer) (root ∷ []) nodes searched.walks in
    let parted : Walks cut_at problem.catalogue P (root ∷ []) (take place nodes ++ node ∷ drop (suc place) nodes) =
    subst (λ all. Walks cut_at problem.catalogue P (root ∷ []) all) (split_at nodes place node within ∙ ap (λ one. take place nodes ++ one ∷ drop (suc place) nodes) (sym is)) whole in
    let grown : Walks cut_at problem.catalogue P (root ∷ []) ((take place nodes ++ (Fixed (Branch cut) ∷ left ∷ right ∷ [])) ++ drop (suc place) nodes) =
    walks_graft cut_at problem.catalogue P (root ∷ []) at.region at.left (take place nodes) (Fixed (Branch cut) ∷ left ∷ right ∷ []) (drop (suc place) nodes) node
    (cut_before problem at.region node can) at.here parted
    (subst (λ other. Walks cut_at problem.catalogue P (other ∷ []) (Fixed (Branch cut) ∷ left ∷ right ∷ [])) (sym same) (new_walk problem root region new cut left right branching over inside)) in
    record {
      walks = subst (λ all. Walks cut_at problem.catalogue P (root ∷ []) all) (append_assoc (take place nodes) (Fixed (Branch cut) ∷ left ∷ right ∷ []) (drop (suc place) nodes)) grown;
      plan = plan_kept problem root old new offered searched.plan;
    }

-- ---- counts

pub leaf_made : (node : Node) → cut_of node ≡ None → (best : Option CostedPicks) → made_or_open best (node ∷ []) ≡ (if is_open best node then 1 else 0)
leaf_made (Branch cut) leaf best = absurd cc
leaf_made (CostLeaf bound multipliers) leaf best = omega arith
leaf_made (RayLeaf multipliers) leaf best = omega arith
leaf_made EmptyLeaf leaf best = omega arith

pub one_if_leaf : (node : Node) → cut_of node ≡ None → branchings_of (node ∷ []) ≡ 0
one_if_leaf (Branch cut) leaf = absurd cc
one_if_leaf (CostLeaf bound multipliers) leaf = refl
one_if_leaf (RayLeaf multipliers) leaf = refl
one_if_leaf EmptyLeaf leaf = refl

pub one_branching : (nodes : List SearchNode) (place : ℕ) (node : SearchNode) (cut : Cut) (left right : SearchNode) → place < length nodes → node ≡ get_or nodes place node →
    cut_at node ≡ None → cut_at left ≡ None → cut_at right ≡ None → branchings_of (tree_nodes (branched nodes place cut left right)) ≡ branchings_of (tree_nodes nodes) + 1
one_branching [] place node cut left right within is a b c = absurd (omega (arith, within))
one_branching (first ∷ nodes) zero node cut left right within is a b c =
    let same : cut_at first ≡ None = subst (λ one. cut_at one ≡ None) is a in
    let first_none : branchings_of (tree_node first ∷ []) ≡ 0 = one_if_leaf (tree_node first) same in
    let left_none : branchings_of (tree_node left ∷ []) ≡ 0 = one_if_leaf (tree_node left) b in
    let right_none : branchings_of (tree_node right ∷ []) ≡ 0 = one_if_leaf (tree_node right) c in
    omega (arith, first_none, left_none, right_none)
one_branching (first ∷ nodes) (suc place) node cut left right within is a b c =
    omega (arith, one_branching nodes place node cut left right (omega (arith, within)) is a b c)

open_least : (old new : Option CostedPicks) → ((bound : ℤ) → is_below bound new ≡ true → is_below bound old ≡ true) → (node : Node) → (if is_open new node then 1 else 0) ≤ (if is_open old node then 1 else 0)
open_least old new dearer node = at (is_open new node) refl
  where
    at : (opens : Bool) → is_open new node ≡ opens → (if opens then 1 else 0) ≤ (if is_open old node then 1 else 0)
    at true e = omega (arith, ap {B = ℕ} (λ (b : Bool). if b then 1 else 0) (open_before old new dearer node e))
    at false e = omega arith

open_fewer : (old new : Option CostedPicks) → ((bound : ℤ) → is_below bound new ≡ true → is_below bound old ≡ true) → (nodes : List Node) → open_leaves_of new nodes ≤ open_leaves_of old nodes
open_fewer old new dearer [] = omega arith
open_fewer old new dearer (node ∷ nodes) = omega (arith, open_least old new dearer node, open_fewer old new dearer nodes)

pub open_after : (old new : Option CostedPicks) → ((bound : ℤ) → is_below bound new ≡ true → is_below bound old ≡ true) → (nodes : List SearchNode) (place : ℕ) (node : SearchNode) (cut : Cut) (left right : SearchNode) →
    place < length nodes → node ≡ get_or nodes place node → is_open old (tree_node node) ≡ true →
    open_leaves_of new (tree_nodes (branched nodes place cut left right)) + 1 ≤
    open_leaves_of old (tree_nodes nodes) + ((if is_open new (tree_node left) then 1 else 0) + (if is_open new (tree_node right) then 1 else 0))
open_after old new dearer [] place node cut left right within is opens = absurd (omega (arith, within))
open_after old new dearer (first ∷ nodes) zero node cut left right within is opens =
    let same : is_open old (tree_node first) ≡ true = subst (λ one. is_open old (tree_node one) ≡ true) is opens in
    omega (arith, ap {B = ℕ} (λ (b : Bool). if b then 1 else 0) same, open_fewer old new dearer (tree_nodes nodes))
open_after old new dearer (first ∷ nodes) (suc place) node cut left right within is opens =
    omega (arith, open_least old new dearer (tree_node first), open_after old new dearer nodes place node cut left right (omega (arith, within)) is opens)

-- the places of the children
pub put_behind : (nodes : List SearchNode) (place : ℕ) (cut : Cut) (left right : SearchNode) → place < length nodes →
    insert (insert (set nodes place (Fixed (Branch cut))) (suc place) left) (suc (suc place)) right ≡ branched nodes place cut left right
put_behind [] place cut left right within = absurd (omega (arith, within))
put_behind (node ∷ nodes) zero cut left right within = refl
put_behind (node ∷ nodes) (suc place) cut left right within = ap (λ rest. node ∷ rest) (put_behind nodes place cut left right (omega (arith, within)))

-- ---- a branching from its division

-- what is known of a node that is open
pub record IsReady (problem : Meanings) (node : PendingNode) : Type 0 where
  pub inside : IsTrue (are_in node.picks node.region)
  pub divisible : IsSingle node.region → ⊥
  pub within : (trip comp : ℕ) → IsTrue (has node.region trip comp) → comp < length problem.catalogue
  pub sets : length node.region ≡ problem.trips
  pub fits : DoFitFor problem node.multipliers

ready_by : (problem : Meanings) → IsRelaxation problem → (root region : List (List Bool)) (best : Option CostedPicks) (node : PendingNode) → IsPlaced problem root best region (Pending node) → IsPending problem region node → IsReady problem node
ready_by problem relaxation root region best node placed can = record {
  inside = subst (λ sets. IsTrue (are_in node.picks sets)) (sym can.own) (relaxation.near_in node.picks region can.choice.near);
  divisible = λ single. single_picks_are_evident problem relaxation region (subst (λ sets. IsSingle sets) can.own single) can.not_evident;
  within = λ trip comp listed. placed.over.within trip comp (subst (λ sets. IsTrue (has sets trip comp)) can.own listed);
  sets = ap length can.own ∙ placed.over.each;
  fits = placed.known.proved.fitting;
}

pub ready_at : (problem : Meanings) → IsRelaxation problem → (root : List (List Bool)) (best : Option CostedPicks) (nodes : List SearchNode) (place : ℕ) (node : PendingNode) → place < length nodes →
    Pending node ≡ get_or nodes place (Pending node) → is_below node.bound.0 best ≡ true → IsSearched problem root best nodes → IsReady problem node
ready_at problem relaxation root best nodes place node within here below searched =
    let at : IsPlacedAt cut_at problem.catalogue (IsPlaced problem root best) (root ∷ []) nodes place (Pending node) = placed_at cut_at problem.catalogue (IsPlaced problem root best) (root ∷ []) nodes place (Pending node) within here searched.walks in
    ready_by problem relaxation root at.region best node at.fact (at.fact.known.branches below)

-- the regions of a division lie in the root
pub sides_within : (problem : Meanings) (root : List (List Bool)) (best : Option CostedPicks) (nodes : List SearchNode) (place : ℕ) (division : Division) → IsDivisionAt problem best nodes place division →
    IsSearched problem root best nodes → IsSubregion root division.left × IsSubregion root division.right
sides_within problem root best nodes place division at searched =
    let placed : IsPlacedAt cut_at problem.catalogue (IsPlaced problem root best) (root ∷ []) nodes place (Pending at.node) =
    placed_at cut_at problem.catalogue (IsPlaced problem root best) (root ∷ []) nodes place (Pending at.node) at.within at.here searched.walks in
    let own : at.node.region ≡ placed.region = (placed.fact.known.branches at.below).own in
    let within : IsSubregion root at.node.region = subst (λ sets. IsSubregion root sets) (sym own) placed.fact.within in (
      subst (λ sets. IsSubregion root sets) (sym at.divided.left) (within_side problem root at.node.region division.cut Left at.divided.proper within),
      subst (λ sets. IsSubregion root sets) (sym at.divided.right) (within_side problem root at.node.region division.cut Right at.divided.proper within),
    )

branching_of : (problem : Meanings) (root region : List (List Bool)) (middle new : Option CostedPicks) (division : Division) (left right : SearchNode) (node : PendingNode) → node.region ≡ region → IsDivision problem.catalogue node division →
    IsLeafOf problem middle division.left left → IsOffered problem root middle new → IsLeafOf problem new division.right right → IsBranching problem new region division.cut left right
branching_of problem root region middle new division left right node own divided one offered other = record {
  proper = subst (λ sets. IsProper problem.catalogue sets division.cut) own divided.proper;
  one = record {
    leaf = one.leaf;
    known = subst (λ sets. IsNodeOf problem new sets left) (divided.left ∙ ap (λ sets. side_of problem.catalogue division.cut Left sets) own) (node_with problem middle new division.left left offered.no_dearer one.known);
  };
  other = record {
    leaf = other.leaf;
    known = subst (λ sets. IsNodeOf problem new sets right) (divided.right ∙ ap (λ sets. side_of problem.catalogue division.cut Right sets) own) other.known;
  };
}

pub after_branch : (problem : Meanings) (root : List (List Bool)) (old middle new : Option CostedPicks) (nodes : List SearchNode) (place : ℕ) (division : Division) (left right : SearchNode) →
    IsDivisionAt problem old nodes place division → IsLeafOf problem middle division.left left → IsOffered problem root old middle → IsLeafOf problem new division.right right → IsOffered problem root middle new →
    IsSearched problem root old nodes → IsSearched problem root new (branched nodes place division.cut left right)
after_branch problem root old middle new nodes place division left right at one first other second searched =
    searched_on problem root at.node.region old new nodes place (Pending at.node) division.cut left right at.within at.here (λ sets can. sym can.own) at.below
    (branching_of problem root at.node.region middle new division left right at.node refl at.divided one second other)
    (offered_again problem root old middle new first second) searched

pub branchings_after : (problem : Meanings) (old middle new : Option CostedPicks) (nodes : List SearchNode) (place : ℕ) (division : Division) (left right : SearchNode) → IsDivisionAt problem old nodes place division →
    IsLeafOf problem middle division.left left → IsLeafOf problem new division.right right → branchings_of (tree_nodes (branched nodes place division.cut left right)) ≡ branchings_of (tree_nodes nodes) + 1
branchings_after problem old middle new nodes place division left right at one other =
    one_branching nodes place (Pending at.node) division.cut left right at.within at.here refl one.leaf other.leaf

pub kept_up : (problem : Meanings) (root : List (List Bool)) (old middle new : Option CostedPicks) (nodes : List SearchNode) (place : ℕ) (division : Division) (left right : SearchNode) → IsDivisionAt problem old nodes place division →
    IsLeafOf problem middle division.left left → IsOffered problem root old middle → IsLeafOf problem new division.right right → IsOffered problem root middle new →
    made_or_open new (tree_nodes (branched nodes place division.cut left right)) ≤
    made_or_open old (tree_nodes nodes) + ((if is_open middle (tree_node left) then 1 else 0) + (if is_open new (tree_node right) then 1 else 0))
kept_up problem root old middle new nodes place division left right at one first other second =
    omega (
      arith,
      branchings_after problem old middle new nodes place division left right at one other,
      open_after old new (offered_again problem root old middle new first second).no_dearer nodes place (Pending at.node) division.cut left right at.within at.here at.below,
      open_least middle new second.no_dearer (tree_node left),
    )

pub put_after : (nodes : List SearchNode) (place : ℕ) (cut : Cut) (left right : SearchNode) (first second : List SearchNode) → place < length nodes →
    first ≡ insert (set nodes place (Fixed (Branch cut))) (place + 1) left → second ≡ insert first (place + 2) right → second ≡ branched nodes place cut left right
put_after nodes place cut left right first second within one two =
    let next : place + 1 ≡ suc place = omega arith in
    let last : place + 2 ≡ suc (suc place) = omega arith in
    two ∙ ap (λ list. insert list (place + 2) right) one ∙ ap (λ (at : ℕ). insert (insert (set nodes place (Fixed (Branch cut))) at left) (place + 2) right) next ∙
    ap (λ (at : ℕ). insert (insert (set nodes place (Fixed (Branch cut))) (suc place) left) at right) last ∙ put_behind nodes place cut left right within

-- a search begins with its root
pub one_node : (problem : Meanings) (root : List (List Bool)) (best : Option CostedPicks) (node : SearchNode) → IsOver problem.trips problem.catalogue root → IsLeafOf problem best root node → IsOffered problem root None best →
    IsSearched problem root best (node ∷ [])
one_node problem root best node over is offered = record {
  walks = (
    record { known = is.known; over = over; within = λ picks inside. inside },
    subst (λ found. Walks cut_at problem.catalogue (IsPlaced problem root best) (regions_below problem.catalogue root found ++ []) []) (sym is.leaf) tt,
  );
  plan = plan_kept problem root None best offered tt;
}

pub division_at : (problem : Meanings) (best : Option CostedPicks) (nodes : List SearchNode) (place : ℕ) (node : PendingNode) (division : Division) → place < length nodes → Pending node ≡ get_or nodes place (Pending node) →
    is_below node.bound.0 best ≡ true → IsReady problem node → IsDivision problem.catalogue node division → IsDivisionAt problem best nodes place division
division_at problem best nodes place node division within here below ready divided = record {
  node = node;
  within = within;
  here = here;
  below = below;
  divided = divided;
  fits = subst (λ entries. DoFitFor problem entries) (sym divided.multipliers) ready.fits;
  left_sets = ap length divided.left ∙ (length-set node.region (trip_of division.cut) (restricted (is_on problem.catalogue division.cut Left) (set_at node.region (trip_of division.cut))) ∙ ready.sets);
  right_sets = ap length divided.right ∙ (length-set node.region (trip_of division.cut) (restricted (is_on problem.catalogue division.cut Right) (set_at node.region (trip_of division.cut))) ∙ ready.sets);
}
