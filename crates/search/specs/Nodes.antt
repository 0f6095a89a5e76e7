-- The nodes of a search: how each stands in its tree, and what is known of it in its region.
use Rattle.std.specs.Prelude.{ℕ, suc, ◌≡◌, ◌<◌, ◌≤◌, List, [], ◌∷◌, ◌++◌, length, get_or, map, take, drop, Bool, true}
use Rattle.std.specs.Prelude.{IsTrue, Option, Some, None}
use Rattle.branch_tree.specs.declared.cuts.Cut.{Cut}
use Rattle.branch_tree.specs.declared.cuts.Cut.TheVariants.{Only}
use Rattle.branch_tree.specs.declared.cuts.Side.TheVariants.{Left, Right}
use Rattle.branch_tree.specs.declared.tree.Node.{Node}
use Rattle.branch_tree.specs.declared.tree.Node.TheVariants.{Branch, CostLeaf}
use Rattle.branch_tree.specs.declared.relaxation.Weight.TheVariants.{Cost}
use Rattle.branch_tree.specs.Bounds.{IsChoice}
use Rattle.branch_tree.specs.Claims.{CostedPicks, IsProvedAt, IsRaisedAt, IsSettledAt, IsNotEvident, is_below, is_open}
use Rattle.branch_tree.specs.Cuts.{side_of, IsProper}
use Rattle.branch_tree.specs.Meanings.{Meanings, DoFitFor}
use Rattle.branch_tree.specs.Regions.{IsOver, are_in, set_at}
use Rattle.branch_tree.specs.Sets.{size_of}
use Rattle.branch_tree.specs.Trees.{Walks, cut_of}
use Rattle.search.specs.declared.nodes.Division.{Division}
use Rattle.search.specs.declared.nodes.NewNode.{NewNode}
use Rattle.search.specs.declared.nodes.PendingNode.{PendingNode}
use Rattle.search.specs.declared.nodes.SearchNode.{SearchNode}
use Rattle.search.specs.declared.nodes.SearchNode.TheVariants.{Fixed, Pending}
use Rattle.search.specs.Offers.{HasPlanIn}

-- the node as it stands in a tree
abbrev pub tree_node : SearchNode → Node
tree_node (Fixed node) = node
tree_node (Pending node) = CostLeaf node.bound node.multipliers

abbrev pub cut_at : SearchNode → Option Cut
cut_at node = cut_of (tree_node node)

-- a node can be branched: it has its region, the choice of it under its multipliers, and no evident end
pub record IsPending (problem : Meanings) (region : List (List Bool)) (node : PendingNode) : Type 0 where
  pub own : node.region ≡ region
  pub choice : IsChoice problem region node.multipliers Cost node.picks
  pub not_evident : IsNotEvident problem region

abbrev pub CanBranch : Meanings → List (List Bool) → SearchNode → Type 0
CanBranch problem region (Fixed node) = ⊥
CanBranch problem region (Pending node) = IsPending problem region node

-- what a node proves of its region; and where it is open, it can be branched
pub record IsNodeOf (problem : Meanings) (best : Option CostedPicks) (region : List (List Bool)) (node : SearchNode) :
    Type 0 where
  pub proved : IsProvedAt problem region (tree_node node)
  pub raised : IsRaisedAt problem region (tree_node node)
  pub settled : IsSettledAt problem best region (tree_node node)
  pub branches : is_open best (tree_node node) ≡ true → CanBranch problem region node

-- a leaf over a region
pub record IsLeafOf (problem : Meanings) (best : Option CostedPicks) (region : List (List Bool)) (node : SearchNode) :
    Type 0 where
  pub leaf : cut_at node ≡ None
  pub known : IsNodeOf problem best region node

-- all picks of a region are in the root
abbrev pub IsSubregion : List (List Bool) → List (List Bool) → Type 0
IsSubregion root region = (picks : List ℕ) → IsTrue (are_in picks region) → IsTrue (are_in picks root)

-- a region below the root of which a node is to be made, and multipliers that fit, which it inherits
pub record IsNewNode (problem : Meanings) (root : List (List Bool)) (node : NewNode) : Type 0 where
  pub sets : length node.region ≡ problem.trips
  pub within : IsSubregion root node.region
  pub fits : DoFitFor problem node.inherited.now

-- a new node is the next one of these nodes: it is put among them, and its number is how many they are
pub record HasNextNumber (nodes : List SearchNode) (node : NewNode) : Type 0 where
  pub place : node.place ≤ length nodes
  pub number : node.number ≡ length nodes

-- what is known of a node and of its region below the root
pub record IsPlaced (problem : Meanings) (root : List (List Bool)) (best : Option CostedPicks)
    (region : List (List Bool)) (node : SearchNode) : Type 0 where
  pub known : IsNodeOf problem best region node
  pub over : IsOver problem.trips problem.catalogue region
  pub within : IsSubregion root region

-- the nodes are one tree over the root, in preorder, and the best plan is a solution in the root
pub record IsSearched (problem : Meanings) (root : List (List Bool)) (best : Option CostedPicks)
    (nodes : List SearchNode) : Type 0 where
  pub walks : Walks cut_at problem.catalogue (IsPlaced problem root best) (root ∷ []) nodes
  pub plan : HasPlanIn problem root best

-- the first trip of a region that has more than one composition
pub record IsFirstDivisible (region : List (List Bool)) (trip : ℕ) : Type 0 where
  pub within : trip < length region
  pub several : 1 < size_of (set_at region trip)
  pub first : (earlier : ℕ) → earlier < trip → size_of (set_at region earlier) ≤ 1

-- the cut by which a node is branched: the one that was proposed last, where it is proper; else that of the first trip
-- with more than one composition, by its pick
pub record IsOwnCut (catalogue : List (List ℕ)) (node : PendingNode) (cut : Cut) : Type 0 where
  pub proposed : (asked : Cut) → node.cut ≡ Some asked → IsProper catalogue node.region asked → cut ≡ asked
  pub other : ((asked : Cut) → node.cut ≡ Some asked → IsProper catalogue node.region asked → ⊥) →
      (trip : ℕ) × IsFirstDivisible node.region trip × (cut ≡ Only trip (get_or node.picks trip 0))

-- what a branching makes of a node: its own cut, which is proper in its region, the sides of that cut, and its
-- multipliers
pub record IsDivision (catalogue : List (List ℕ)) (node : PendingNode) (division : Division) : Type 0 where
  pub proper : IsProper catalogue node.region division.cut
  pub own : IsOwnCut catalogue node division.cut
  pub left : division.left ≡ side_of catalogue division.cut Left node.region
  pub right : division.right ≡ side_of catalogue division.cut Right node.region
  pub multipliers : division.multipliers ≡ node.multipliers

-- the nodes as they stand in a tree
abbrev pub tree_nodes : List SearchNode → List Node
tree_nodes nodes = map tree_node nodes

-- the nodes after the one at a place is branched
abbrev pub branched : List SearchNode → ℕ → Cut → SearchNode → SearchNode → List SearchNode
branched nodes place cut left right = take place nodes ++ (Fixed (Branch cut) ∷ left ∷ right ∷ drop (suc place) nodes)

-- a division of the open node at a place of searched nodes
pub record IsDivisionAt (problem : Meanings) (best : Option CostedPicks) (nodes : List SearchNode) (place : ℕ)
    (division : Division) : Type 0 where
  pub node : PendingNode
  pub within : place < length nodes
  pub here : Pending node ≡ get_or nodes place (Pending node)
  pub below : is_below node.bound.0 best ≡ true
  pub divided : IsDivision problem.catalogue node division
  pub fits : DoFitFor problem division.multipliers
  pub left_sets : length division.left ≡ problem.trips
  pub right_sets : length division.right ≡ problem.trips
