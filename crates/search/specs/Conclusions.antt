-- What a search finds of all solutions in its root, and when each answer comes.
use Rattle.std.specs.Prelude.{ℕ, ◌≡◌, ◌≤◌, ◌↔◌, List, [], Bool, IsSome, ℤ, Option, Some, None}
use Rattle.branch_tree.specs.declared.tree.Node.{Node}
use Rattle.branch_tree.specs.Claims.{Conclusion, optimal, infeasible, bounded, bounded_plan, CostedPicks}
use Rattle.branch_tree.specs.Claims.{concluded_plan, IsProved, EndsInTime, HasOpenLeaf}
use Rattle.branch_tree.specs.Meanings.{Meanings}
use Rattle.branch_tree.specs.Trees.{branchings_of, bounds_of}
use Rattle.search.specs.declared.found.Best.{Best}
use Rattle.search.specs.declared.found.Found.{Found}
use Rattle.search.specs.declared.found.Found.TheVariants.{Optimal, Infeasible, Bounded}

-- a solution with its cost, where there is one
abbrev pub plan_in : Option Best → Option CostedPicks
plan_in None = None
plan_in (Some best) = Some (record { cost = best.cost.0; picks = best.picks })

-- the conclusion that no solution costs less than a bound, with a solution where there is one
abbrev pub bounded_with : ℤ → Option CostedPicks → Conclusion
bounded_with bound None = bounded bound
bounded_with bound (Some plan) = bounded_plan bound plan

-- what is concluded
abbrev pub conclusion_found : Found → Conclusion
conclusion_found (Optimal picks cost tree) = optimal (record { cost = cost.0; picks = picks })
conclusion_found (Infeasible tree) = infeasible
conclusion_found (Bounded best bound tree) = bounded_with bound.0 (plan_in best)

-- the solution that was found, where one was
abbrev pub plan_found : Found → Option CostedPicks
plan_found found = concluded_plan (conclusion_found found)

-- the nodes of the tree
abbrev pub nodes_found : Found → List Node
nodes_found (Optimal picks cost tree) = tree
nodes_found (Infeasible tree) = tree
nodes_found (Bounded best bound tree) = tree

abbrev pub IsOptimal : Found → Type 0
IsOptimal (Optimal picks cost tree) = Unit {0}
IsOptimal found = ⊥

abbrev pub IsInfeasible : Found → Type 0
IsInfeasible (Infeasible tree) = Unit {0}
IsInfeasible found = ⊥

abbrev pub IsBounded : Found → Type 0
IsBounded (Bounded best bound tree) = Unit {0}
IsBounded found = ⊥

-- What a search with so many branchings granted has found of the solutions in a root region.
pub record IsSolved (problem : Meanings) (root : List (List Bool)) (grant : ℕ) (found : Found) : Type 0 where
  -- its tree proves what it concludes
  pub proved : IsProved problem root (conclusion_found found) (branchings_of (nodes_found found)) (nodes_found found)
  -- its tree does not end early
  pub in_time : EndsInTime problem root (plan_found found) (nodes_found found)
  -- no more branchings are made than are granted
  pub granted : branchings_of (nodes_found found) ≤ grant
  -- it is bounded exactly where all that are granted are made, and a leaf is open
  pub bounded : IsBounded found ↔
      ((branchings_of (nodes_found found) ≡ grant) × HasOpenLeaf (plan_found found) (nodes_found found))
  -- it is infeasible exactly where there is no plan and no cost leaf
  pub infeasible : IsInfeasible found ↔ ((plan_found found ≡ None) × (bounds_of (nodes_found found) ≡ []))
  -- it is optimal exactly where there is a plan and no open leaf
  pub optimal : IsOptimal found ↔ (IsSome (plan_found found) × ¬ HasOpenLeaf (plan_found found) (nodes_found found))
