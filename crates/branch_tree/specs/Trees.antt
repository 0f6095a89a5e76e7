-- A tree of cuts as a list in preorder: after a branch comes its left subtree, and then its right one.
-- What is a node is left open: it has a cut where it is a branch, and none where it is a leaf.
use Rattle.std.specs.Prelude.{ℕ, ◌+◌, ◌≡◌, List, [], ◌∷◌, ◌++◌, is_some, is_none, filter, if◌then◌else◌, All, Bool, ℤ}
use Rattle.std.specs.Prelude.{Option, Some, None, MatchOption, Contains, ◌≤ℤ◌}
use Rattle.rail_base.specs.declared.numbers.Money.{Money}
use Rattle.branch_tree.specs.declared.cuts.Cut.{Cut}
use Rattle.branch_tree.specs.declared.cuts.Side.TheVariants.{Left, Right}
use Rattle.branch_tree.specs.declared.multipliers.Entry.{Entry}
use Rattle.branch_tree.specs.declared.tree.Node.{Node}
use Rattle.branch_tree.specs.declared.tree.Node.TheVariants.{Branch, CostLeaf, RayLeaf}
use Rattle.branch_tree.specs.Cuts.{side_of, IsProper}
use Rattle.branch_tree.specs.Entries.{AreMultipliers}
use Rattle.branch_tree.specs.Regions.{IsSingle}

-- the regions below a node: the two sides of the cut of a branch, and none below a leaf
abbrev pub regions_below : List (List ℕ) → List (List Bool) → Option Cut → List (List (List Bool))
regions_below catalogue region (Some cut) = side_of catalogue cut Left region ∷ side_of catalogue cut Right region ∷ []
regions_below catalogue region None = []

-- The nodes are whole trees in preorder, one over each of the regions in turn, and a fact holds of each node in its
-- region.
abbrev pub Walks : {N : Type 0} → (N → Option Cut) → List (List ℕ) → (List (List Bool) → N → Type 0) →
    List (List (List Bool)) → List N → Type 0
Walks cut_of catalogue P [] [] = Unit {0}
Walks cut_of catalogue P [] (node ∷ nodes) = ⊥
Walks cut_of catalogue P (region ∷ regions) [] = ⊥
Walks cut_of catalogue P (region ∷ regions) (node ∷ nodes) =
    P region node × Walks cut_of catalogue P (regions_below catalogue region (cut_of node) ++ regions) nodes

-- how many nodes are branches
abbrev pub branches_in : {N : Type 0} → (N → Option Cut) → List N → ℕ
branches_in cut_of [] = 0
branches_in cut_of (node ∷ nodes) = (if is_some (cut_of node) then 1 else 0) + branches_in cut_of nodes

-- the nodes with their regions, in preorder, of trees over regions
abbrev pub nodes_in : {N : Type 0} → (N → Option Cut) → List (List ℕ) → List (List (List Bool)) → List N →
    List (List (List Bool) × N)
nodes_in cut_of catalogue regions [] = []
nodes_in cut_of catalogue [] (node ∷ nodes) = []
nodes_in cut_of catalogue (region ∷ regions) (node ∷ nodes) =
    (region, node) ∷ nodes_in cut_of catalogue (regions_below catalogue region (cut_of node) ++ regions) nodes

-- the leaves with their regions, in order
abbrev pub leaves_in : {N : Type 0} → (N → Option Cut) → List (List ℕ) → List (List (List Bool)) → List N →
    List (List (List Bool) × N)
leaves_in cut_of catalogue regions nodes =
    filter (λ placed. is_none (cut_of placed.1)) (nodes_in cut_of catalogue regions nodes)

-- the regions over which there are to be trees yet, after some nodes of trees over regions
abbrev pub regions_left : {N : Type 0} → (N → Option Cut) → List (List ℕ) → List (List (List Bool)) → List N →
    List (List (List Bool))
regions_left cut_of catalogue regions [] = regions
regions_left cut_of catalogue [] (node ∷ nodes) = []
regions_left cut_of catalogue (region ∷ regions) (node ∷ nodes) =
    regions_left cut_of catalogue (regions_below catalogue region (cut_of node) ++ regions) nodes

-- the cut of a branch, and none at a leaf
abbrev pub cut_of : Node → Option Cut
cut_of (Branch cut) = Some cut
cut_of leaf = None

-- the multipliers of a cost leaf or a ray leaf, and none at a branch or an empty leaf
abbrev pub multipliers_of : Node → List Entry
multipliers_of (CostLeaf bound multipliers) = multipliers
multipliers_of (RayLeaf multipliers) = multipliers
multipliers_of node = []

-- the nodes are one whole tree in preorder over a region, and a fact holds of each node in its region
abbrev pub Covers : List (List ℕ) → (List (List Bool) → Node → Type 0) → List (List Bool) → List Node → Type 0
Covers catalogue P root nodes = Walks cut_of catalogue P (root ∷ []) nodes

-- the nodes are one whole tree in preorder
abbrev pub IsWhole : List Node → Type 0
IsWhole nodes = Covers [] (λ region node. Unit {0}) [] nodes

-- where the node is a leaf, each trip of the region has one composition
abbrev pub IsSingleAt : List (List Bool) → Node → Type 0
IsSingleAt region node = cut_of node ≡ None → IsSingle region

-- where the node is a branch, its cut is proper in the region
abbrev pub IsProperAt : List (List ℕ) → List (List Bool) → Node → Type 0
IsProperAt catalogue region node = MatchOption (cut_of node) (Unit {0}) (IsProper catalogue region)

abbrev pub branchings_of : List Node → ℕ
branchings_of nodes = branches_in cut_of nodes

-- the multipliers of each node are a list of multipliers: indices that rise, values that are not 0 and keep within the
-- limit, at most so many entries
abbrev pub KeepLimits : List Node → Type 0
KeepLimits nodes = All (λ node. AreMultipliers (multipliers_of node)) nodes

-- the bounds of the cost leaves, in order
abbrev pub bounds_of : List Node → List ℤ
bounds_of [] = []
bounds_of (CostLeaf bound multipliers ∷ nodes) = bound.0 ∷ bounds_of nodes
bounds_of (node ∷ nodes) = bounds_of nodes

-- the bound of a cost leaf, and none at another node
abbrev pub bound_of : Node → Option Money
bound_of (CostLeaf bound multipliers) = Some bound
bound_of node = None

-- a number is the least of some
pub record IsLeast (numbers : List ℤ) (least : ℤ) : Type 0 where
  pub one : Contains numbers least
  pub all : All (λ number. least ≤ℤ number) numbers

-- the least of some bounds, or none where there is no bound
abbrev pub IsLeastOf : List ℤ → Option Money → Type 0
IsLeastOf bounds None = bounds ≡ []
IsLeastOf bounds (Some least) = IsLeast bounds least.0
