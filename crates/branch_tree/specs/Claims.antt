-- What is concluded of all solutions in a region, and what proves it: a tree of cuts with a bound at each leaf.
use Rattle.std.specs.Prelude.{ℕ, ◌≡◌, ◌+◌, ◌<◌, List, [], ◌∷◌, Bool, true, false, IsTrue, if◌then◌else◌, ℤ, pos, ◌≤ℤ◌}
use Rattle.std.specs.Prelude.{◌<ℤ◌, int_lt, All, Option, Some, None, MatchOption}
use Rattle.branch_tree.specs.declared.claims.Claim.{Claim}
use Rattle.branch_tree.specs.declared.claims.ClaimHead.{ClaimHead}
use Rattle.branch_tree.specs.declared.claims.ClaimHead.TheVariants.{Optimal, Infeasible, Bounded, BoundedPlan}
use Rattle.branch_tree.specs.declared.multipliers.Entry.{Entry}
use Rattle.branch_tree.specs.declared.relaxation.Weight.TheVariants.{Cost, NoCost}
use Rattle.branch_tree.specs.declared.tree.Node.{Node}
use Rattle.branch_tree.specs.declared.tree.Node.TheVariants.{CostLeaf, RayLeaf, EmptyLeaf}
use Rattle.branch_tree.specs.Bounds.{IsEmpty, IsChoice, IsChainValue}
use Rattle.branch_tree.specs.Entries.{DoFit}
use Rattle.branch_tree.specs.Meanings.{Meanings}
use Rattle.branch_tree.specs.Regions.{are_in}
use Rattle.branch_tree.specs.Trees.{Covers, IsLeast, IsWhole, IsProperAt, branchings_of, bounds_of}

-- picks with a cost that is said
pub record CostedPicks : Type 0 where
  pub cost : ℤ
  pub picks : List ℕ

-- What is concluded of the solutions in a region: that these picks cost least; that there is none; that none costs less
-- than a bound, without or with picks that are one.
pub data Conclusion : Type 0 where
  optimal : CostedPicks → Conclusion
  infeasible : Conclusion
  bounded : ℤ → Conclusion
  bounded_plan : ℤ → CostedPicks → Conclusion

-- the conclusion that a claim says
abbrev pub said_by : ClaimHead → Conclusion
said_by (Optimal cost picks) = optimal (record { cost = cost.0; picks = picks.now })
said_by Infeasible = infeasible
said_by (Bounded bound) = bounded bound.0
said_by (BoundedPlan bound cost picks) = bounded_plan bound.0 (record { cost = cost.0; picks = picks.now })

-- the picks of a conclusion
abbrev pub concluded_plan : Conclusion → Option CostedPicks
concluded_plan (optimal plan) = Some plan
concluded_plan infeasible = None
concluded_plan (bounded bound) = None
concluded_plan (bounded_plan bound plan) = Some plan

-- the picks are a solution in the region, with the cost said
pub record IsPlanIn (problem : Meanings) (root : List (List Bool)) (plan : CostedPicks) : Type 0 where
  pub inside : IsTrue (are_in plan.picks root)
  pub solution : problem.IsSolution plan.picks
  pub cost : problem.cost plan.picks ≡ plan.cost

-- no solution in the region costs less
abbrev pub CostsAtLeast : Meanings → List (List Bool) → ℤ → Type 0
CostsAtLeast problem root bound =
    (picks : List ℕ) → problem.IsSolution picks → IsTrue (are_in picks root) → bound ≤ℤ problem.cost picks

-- no picks in the region are a solution
abbrev pub HasNoSolution : Meanings → List (List Bool) → Type 0
HasNoSolution problem root = (picks : List ℕ) → problem.IsSolution picks → IsTrue (are_in picks root) → ⊥

-- the conclusion is true of the solutions in the region
abbrev pub IsConcluded : Meanings → List (List Bool) → Conclusion → Type 0
IsConcluded problem root (optimal plan) = IsPlanIn problem root plan × CostsAtLeast problem root plan.cost
IsConcluded problem root infeasible = HasNoSolution problem root
IsConcluded problem root (bounded bound) = CostsAtLeast problem root bound
IsConcluded problem root (bounded_plan bound plan) = IsPlanIn problem root plan × CostsAtLeast problem root bound

-- the multipliers of a leaf fit
abbrev pub DoFitAt : Meanings → List (List Bool) → Node → Type 0
DoFitAt problem region (CostLeaf bound multipliers) = DoFit problem.indices problem.free_from multipliers
DoFitAt problem region (RayLeaf multipliers) = DoFit problem.indices problem.free_from multipliers
DoFitAt problem region node = Unit {0}

-- a cost leaf has as its bound what its region's chain value with cost is under its multipliers
abbrev pub IsBoundAt : Meanings → List (List Bool) → Node → Type 0
IsBoundAt problem region (CostLeaf bound multipliers) = IsChainValue problem region multipliers Cost bound.0
IsBoundAt problem region node = Unit {0}

-- the chain value of a region under multipliers without cost exists and is positive
abbrev pub IsRay : Meanings → List (List Bool) → List Entry → Type 0
IsRay problem region multipliers = (value : ℤ) × IsChainValue problem region multipliers NoCost value × (pos 0 <ℤ value)

abbrev pub IsRayAt : Meanings → List (List Bool) → Node → Type 0
IsRayAt problem region (RayLeaf multipliers) = IsRay problem region multipliers
IsRayAt problem region node = Unit {0}

-- nothing is near the region of an empty leaf
abbrev pub IsEmptyAt : Meanings → List (List Bool) → Node → Type 0
IsEmptyAt problem region EmptyLeaf = IsEmpty problem region
IsEmptyAt problem region node = Unit {0}

-- what a proved claim says of each node in its region
pub record IsProvedAt (problem : Meanings) (region : List (List Bool)) (node : Node) : Type 0 where
  pub proper : IsProperAt problem.catalogue region node
  pub fitting : DoFitAt problem region node
  pub bound : IsBoundAt problem region node
  pub ray : IsRayAt problem region node
  pub empty : IsEmptyAt problem region node

-- the bounds of the cost leaves prove the conclusion
abbrev pub DoBound : List ℤ → Conclusion → Type 0
DoBound bounds (optimal plan) = All (λ bound. plan.cost ≤ℤ bound) bounds
DoBound bounds infeasible = bounds ≡ []
DoBound bounds (bounded bound) = IsLeast bounds bound
DoBound bounds (bounded_plan bound plan) = IsLeast bounds bound

-- A claim of a conclusion that its tree proves over a root region.
pub record IsProved (problem : Meanings) (root : List (List Bool)) (conclusion : Conclusion) (branchings : ℕ)
    (nodes : List Node) : Type 0 where
  -- the nodes are one whole tree in preorder, with as many branches as are said
  pub whole : IsWhole nodes × (branchings_of nodes ≡ branchings)
  -- every cut is proper in its node's region
  pub proper : Covers problem.catalogue (IsProperAt problem.catalogue) root nodes
  -- the multipliers of each leaf fit
  pub fitting : Covers problem.catalogue (DoFitAt problem) root nodes
  -- each cost leaf has as its bound what its region's chain value with cost is under its multipliers
  pub bounds : Covers problem.catalogue (IsBoundAt problem) root nodes
  -- the chain value of each ray leaf's region under its multipliers without cost exists and is positive
  pub rays : Covers problem.catalogue (IsRayAt problem) root nodes
  -- nothing is near the region of each empty leaf
  pub empty : Covers problem.catalogue (IsEmptyAt problem) root nodes
  -- where there are picks, they are a solution in the root with the cost said
  pub plan : MatchOption (concluded_plan conclusion) (Unit {0}) (IsPlanIn problem root)
  -- the bounds of the cost leaves prove the conclusion
  pub head : DoBound (bounds_of nodes) conclusion

-- a claim whose tree proves what its head says
abbrev pub IsProvedClaim : Meanings → List (List Bool) → Claim → Type 0
IsProvedClaim problem root claim = IsProved problem root (said_by claim.head) claim.branchings claim.tree.now

-- whether a bound leaves room for a better plan: there is no plan, or the bound is below its cost
abbrev pub is_below : ℤ → Option CostedPicks → Bool
is_below bound None = true
is_below bound (Some plan) = int_lt bound plan.cost

-- whether a node is an open leaf: a cost leaf where there is no plan, or whose bound is below the cost of the plan
abbrev pub is_open : Option CostedPicks → Node → Bool
is_open plan (CostLeaf bound multipliers) = is_below bound.0 plan
is_open plan node = false

abbrev pub IsOpen : Option CostedPicks → Node → Type 0
IsOpen plan node = IsTrue (is_open plan node)

-- how many leaves are open
abbrev pub open_leaves_of : Option CostedPicks → List Node → ℕ
open_leaves_of plan [] = 0
open_leaves_of plan (node ∷ nodes) = (if is_open plan node then 1 else 0) + open_leaves_of plan nodes

abbrev pub HasOpenLeaf : Option CostedPicks → List Node → Type 0
HasOpenLeaf plan nodes = 0 < open_leaves_of plan nodes

-- A region whose end is not evident: the choice without multipliers is no solution, and the single multiplier that is
-- named for it does not show that the region has none.
pub record IsNotEvident (problem : Meanings) (region : List (List Bool)) : Type 0 where
  pub picks : List ℕ
  pub choice : IsChoice problem region [] Cost picks
  pub no_solution : problem.IsSolution picks → ⊥
  pub value : ℤ
  pub chain_value : IsChainValue problem region (problem.broken picks ∷ []) NoCost value
  pub not_positive : value ≤ℤ pos 0

-- no open leaf has an evident end
abbrev pub IsNotEvidentAt : Meanings → Option CostedPicks → List (List Bool) → Node → Type 0
IsNotEvidentAt problem plan region node = IsOpen plan node → IsNotEvident problem region

-- the bound of a cost leaf is at least the chain value of its region with no multipliers
abbrev pub IsRaisedAt : Meanings → List (List Bool) → Node → Type 0
IsRaisedAt problem region (CostLeaf bound multipliers) =
    (value : ℤ) × IsChainValue problem region [] Cost value × (value ≤ℤ bound.0)
IsRaisedAt problem region node = Unit {0}

-- picks are no solution, or there is a plan that costs no more
abbrev pub IsNoBetter : Meanings → Option CostedPicks → List ℕ → Type 0
IsNoBetter problem plan picks = problem.IsSolution picks → is_below (problem.cost picks) plan ≡ false

-- the choice of a cost leaf under its multipliers is no solution, or there is a plan that costs no more
abbrev pub IsSettledAt : Meanings → Option CostedPicks → List (List Bool) → Node → Type 0
IsSettledAt problem plan region (CostLeaf bound multipliers) =
    (picks : List ℕ) × IsChoice problem region multipliers Cost picks × IsNoBetter problem plan picks
IsSettledAt problem plan region node = Unit {0}

-- A tree that does not end early: each cost leaf has at least the bound without multipliers, its choice is no solution
-- unless there is a plan that costs no more, and no open leaf has an evident end.
pub record EndsInTime (problem : Meanings) (root : List (List Bool)) (plan : Option CostedPicks)
    (nodes : List Node) : Type 0 where
  pub raised : Covers problem.catalogue (IsRaisedAt problem) root nodes
  pub settled : Covers problem.catalogue (IsSettledAt problem plan) root nodes
  pub not_evident : Covers problem.catalogue (IsNotEvidentAt problem plan) root nodes
