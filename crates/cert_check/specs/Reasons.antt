-- The tests that a claim undergoes, in their order. Each says for which reason a claim fails it.
use Rattle.std.specs.Prelude.{ℕ, suc, ◌<◌, ◌≤◌, ◌≡◌, ◌≢◌, ◌⊎◌, List, [], ◌∷◌, ◌++◌, length, take, Bool, IsTrue}
use Rattle.std.specs.Prelude.{ℤ, pos, ◌≤ℤ◌, ◌<ℤ◌, Option, Some, None, MatchOption}
use Rattle.rail_base.specs.declared.numbers.Money.{Money}
use Rattle.branch_tree.specs.declared.claims.Claim.{Claim}
use Rattle.branch_tree.specs.declared.cuts.Cut.{Cut}
use Rattle.branch_tree.specs.declared.multipliers.Entry.{Entry}
use Rattle.branch_tree.specs.declared.relaxation.Weight.{Weight}
use Rattle.branch_tree.specs.declared.relaxation.Weight.TheVariants.{Cost, NoCost}
use Rattle.branch_tree.specs.declared.tree.Node.{Node}
use Rattle.branch_tree.specs.declared.tree.Node.TheVariants.{Branch, CostLeaf, RayLeaf, EmptyLeaf}
use Rattle.branch_tree.specs.Bounds.{IsEmpty, IsChainValue}
use Rattle.branch_tree.specs.Claims.{Conclusion, optimal, infeasible, bounded, bounded_plan, CostedPicks}
use Rattle.branch_tree.specs.Claims.{concluded_plan, said_by}
use Rattle.branch_tree.specs.Cuts.{IsProper}
use Rattle.branch_tree.specs.Meanings.{Meanings, DoFitFor}
use Rattle.branch_tree.specs.Regions.{are_in}
use Rattle.branch_tree.specs.Trees.{IsLeastOf, IsWhole, branchings_of, bounds_of, cut_of, nodes_in}
use Rattle.cert_check.specs.declared.verdict.Reason.{Reason}
use Rattle.cert_check.specs.declared.verdict.Reason.TheVariants.{TreeShape, BranchingsDiffer, NotProper}
use Rattle.cert_check.specs.declared.verdict.Reason.TheVariants.{MultiplierIndex, BoundDiffers, RayNotPositive}
use Rattle.cert_check.specs.declared.verdict.Reason.TheVariants.{NotEmpty, PicksFail, CostDiffers, LeafBelowCost}
use Rattle.cert_check.specs.declared.verdict.Reason.TheVariants.{CostLeafLeft, LeastBoundDiffers}
use Rattle.cert_check.specs.Tests.{Test}

-- an amount of money as a reason names it
abbrev pub money : ℤ → Money
money amount = record { 0 = amount }

-- ---- the list of nodes

-- the node is there, and those before it are a whole tree
abbrev pub IsAfterTree : List Node → ℕ → Type 0
IsAfterTree nodes node = (node < length nodes) × IsWhole (take node nodes)

-- no first nodes are a whole tree, and the node is the number of all
abbrev pub IsMissing : List Node → ℕ → Type 0
IsMissing nodes node = (node ≡ length nodes) × ((count : ℕ) → count ≤ length nodes → ¬ IsWhole (take count nodes))

-- the nodes are not one whole tree: a node comes after one, or there are too few
abbrev pub IsMisshapen : List Node → Reason → Type 0
IsMisshapen nodes reason = (node : ℕ) × (reason ≡ TreeShape node) × (IsAfterTree nodes node ⊎ IsMissing nodes node)

-- another number of branchings is said than there are
abbrev pub HasOtherBranchings : ℕ → List Node → Reason → Type 0
HasOtherBranchings said nodes reason =
    (reason ≡ BranchingsDiffer said (branchings_of nodes)) × (said ≢ branchings_of nodes)

-- ---- a node of a number, in its region

-- the cut of a branch is not proper
abbrev pub IsImproper : Meanings → ℕ → List (List Bool) → Cut → Reason → Type 0
IsImproper problem number region cut reason = (reason ≡ NotProper number) × (¬ IsProper problem.catalogue region cut)

-- the multipliers of a leaf do not fit
abbrev pub IsUnfit : Meanings → ℕ → List Entry → Reason → Type 0
IsUnfit problem number multipliers reason = (reason ≡ MultiplierIndex number) × (¬ DoFitFor problem multipliers)

-- what is found for a region under multipliers: its chain value, or none where nothing is near it
abbrev pub IsFound : Meanings → List (List Bool) → List Entry → Weight → Option Money → Type 0
IsFound problem region multipliers weight None = IsEmpty problem region
IsFound problem region multipliers weight (Some value) = IsChainValue problem region multipliers weight value.0

-- the bound of a cost leaf is not what is found with cost
abbrev pub HasOtherBound : Meanings → ℕ → List (List Bool) → Money → List Entry → Reason → Type 0
HasOtherBound problem number region bound multipliers reason = (found : Option Money) ×
    (reason ≡ BoundDiffers number bound found) × IsFound problem region multipliers Cost found × (found ≢ Some bound)

-- what is found for a ray leaf without cost is not positive
abbrev pub IsNoRay : Meanings → ℕ → List (List Bool) → List Entry → Reason → Type 0
IsNoRay problem number region multipliers reason = (found : Option Money) ×
    (reason ≡ RayNotPositive number found) × IsFound problem region multipliers NoCost found ×
    MatchOption found (Unit {0}) (λ value. value.0 ≤ℤ pos 0)

-- something is near the region of an empty leaf
abbrev pub IsNotEmpty : Meanings → ℕ → List (List Bool) → Reason → Type 0
IsNotEmpty problem number region reason = (reason ≡ NotEmpty number) × (¬ IsEmpty problem region)

-- the tests of a node
abbrev pub node_tests : Meanings → ℕ → List (List Bool) → Node → List Test
node_tests problem number region (Branch cut) = IsImproper problem number region cut ∷ []
node_tests problem number region (CostLeaf bound multipliers) =
    IsUnfit problem number multipliers ∷ HasOtherBound problem number region bound multipliers ∷ []
node_tests problem number region (RayLeaf multipliers) =
    IsUnfit problem number multipliers ∷ IsNoRay problem number region multipliers ∷ []
node_tests problem number region EmptyLeaf = IsNotEmpty problem number region ∷ []

-- the tests of nodes with their regions, which have rising numbers from one on
abbrev pub tests_from : Meanings → ℕ → List (List (List Bool) × Node) → List Test
tests_from problem number [] = []
tests_from problem number (placed ∷ rest) =
    node_tests problem number placed.0 placed.1 ++ tests_from problem (suc number) rest

-- ---- the claim's picks

-- the picks are outside the root, do not follow, or are no solution
abbrev pub DoPicksFail : Meanings → List (List Bool) → CostedPicks → Reason → Type 0
DoPicksFail problem root plan reason = (reason ≡ PicksFail) ×
    ((¬ IsTrue (are_in plan.picks root)) ⊎ ((¬ problem.Follow plan.picks) ⊎ (¬ problem.IsSolution plan.picks)))

-- the picks have another cost than is said
abbrev pub HasOtherCost : Meanings → CostedPicks → Reason → Type 0
HasOtherCost problem plan reason =
    (reason ≡ CostDiffers (money plan.cost) (money (problem.cost plan.picks))) × (plan.cost ≢ problem.cost plan.picks)

-- picks with the cost that is said
abbrev pub priced_at : Money → List ℕ → CostedPicks
priced_at cost picks = record { cost = cost.0; picks = picks }

abbrev pub plan_tests : Meanings → List (List Bool) → Option CostedPicks → List Test
plan_tests problem root None = []
plan_tests problem root (Some plan) = DoPicksFail problem root plan ∷ HasOtherCost problem plan ∷ []

-- ---- what is said of all solutions

-- the bound of a cost leaf is below the cost of the picks that are said to cost least
abbrev pub IsBelowCost : ℤ → ℕ → Money → Reason → Type 0
IsBelowCost cost number bound reason = (reason ≡ LeafBelowCost number bound (money cost)) × (bound.0 <ℤ cost)

-- a leaf is a cost leaf, so that it does not say that there is no solution
abbrev pub IsLeft : ℕ → Money → Reason → Type 0
IsLeft number bound reason = reason ≡ CostLeafLeft number

-- a test of each cost leaf by its number and bound, of nodes that have rising numbers from one on
abbrev pub leaf_tests : (ℕ → Money → Test) → ℕ → List Node → List Test
leaf_tests test number [] = []
leaf_tests test number (CostLeaf bound multipliers ∷ nodes) = test number bound ∷ leaf_tests test (suc number) nodes
leaf_tests test number (node ∷ nodes) = leaf_tests test (suc number) nodes

-- the bound that is said is not the least of the cost leaves' bounds
abbrev pub HasOtherLeast : ℤ → List Node → Reason → Type 0
HasOtherLeast bound nodes reason = (found : Option Money) ×
    (reason ≡ LeastBoundDiffers (money bound) found) × IsLeastOf (bounds_of nodes) found × (found ≢ Some (money bound))

abbrev pub head_tests : Conclusion → List Node → List Test
head_tests (optimal plan) nodes = leaf_tests (IsBelowCost plan.cost) 0 nodes
head_tests infeasible nodes = leaf_tests IsLeft 0 nodes
head_tests (bounded bound) nodes = HasOtherLeast bound nodes ∷ []
head_tests (bounded_plan bound plan) nodes = HasOtherLeast bound nodes ∷ []

-- ---- the whole claim

-- the tests of a claim over a root region: of the list of nodes, of each node in preorder, of the picks, and of what is
-- said of all solutions
abbrev pub claim_tests : Meanings → List (List Bool) → Claim → List Test
claim_tests problem root claim =
    (IsMisshapen claim.tree.now ∷ HasOtherBranchings claim.branchings claim.tree.now ∷ []) ++
    (tests_from problem 0 (nodes_in cut_of problem.catalogue (root ∷ []) claim.tree.now) ++
    (plan_tests problem root (concluded_plan (said_by claim.head)) ++ head_tests (said_by claim.head) claim.tree.now))
