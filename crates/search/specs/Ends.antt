-- How a search ends: the least bound of its tree, and what is found by it.
use Rattle.std.specs.Prelude.{ℕ, ◌≡◌, ◌+◌, ◌≤◌, ◌⊎◌, List, Bool, true, false, Option, Some, None}
use Rattle.rail_base.specs.declared.limits.TheConstants.{MAX_BRANCHINGS, MAX_ROUNDS}
use Rattle.rail_base.specs.declared.numbers.Money.{Money}
use Rattle.branch_tree.specs.declared.tree.Node.{Node}
use Rattle.branch_tree.specs.Claims.{CostedPicks, is_below, open_leaves_of}
use Rattle.branch_tree.specs.Meanings.{Meanings}
use Rattle.branch_tree.specs.Trees.{IsLeastOf, bounds_of, branchings_of}
use Rattle.search.specs.declared.found.Best.{Best}
use Rattle.search.specs.declared.found.Found.{Found}
use Rattle.search.specs.declared.found.Found.TheVariants.{Optimal, Infeasible, Bounded}
use Rattle.search.specs.declared.nodes.SearchNode.{SearchNode}
use Rattle.search.specs.declared.solving.Allowed.{Allowed}
use Rattle.search.specs.Conclusions.{plan_in}
use Rattle.search.specs.Nodes.{IsSearched, tree_nodes}

-- what is found where no leaf is open
abbrev pub closed_by : Option Best → List Node → Found
closed_by None tree = Infeasible tree
closed_by (Some best) tree = Optimal best.picks best.cost tree

-- what is found with a bound that may leave room for a better solution
abbrev pub bounded_by : Bool → Money → Option Best → List Node → Found
bounded_by true bound best tree = Bounded best bound tree
bounded_by false bound best tree = closed_by best tree

-- what is found with the least bound of a tree and the best solution
abbrev pub found_by : Option Money → Option Best → List Node → Found
found_by None best tree = closed_by best tree
found_by (Some bound) best tree = bounded_by (is_below bound.0 (plan_in best)) bound best tree

-- what is found at the end of a search, with the best solution and the tree
pub record IsFoundBy (best : Option Best) (tree : List Node) (found : Found) : Type 0 where
  pub least : Option Money
  pub is_least : IsLeastOf (bounds_of tree) least
  pub is : found ≡ found_by least best tree

-- how many branchings are made and leaves are open
abbrev pub made_or_open : Option CostedPicks → List Node → ℕ
made_or_open best nodes = branchings_of nodes + open_leaves_of best nodes

-- all branchings that were granted are made, or no leaf is open
abbrev pub HasEnded : ℕ → Option CostedPicks → List Node → Type 0
HasEnded grant best nodes = (branchings_of nodes ≡ grant) ⊎ (open_leaves_of best nodes ≡ 0)

-- so many more times as there are more branchings and open leaves, at least
abbrev pub HaveKeptUp : Option CostedPicks → List Node → Option CostedPicks → List Node → (ℕ → Type 0) → Type 0
HaveKeptUp best nodes later more Times =
    (times : ℕ) × (made_or_open later more ≤ made_or_open best nodes + times) × Times times

-- a search of a root has ended: its nodes are a tree over the root, no more branchings are made than are granted, and
-- all that are granted, or else no leaf is open
pub record HasSearched (problem : Meanings) (root : List (List Bool)) (grant : ℕ) (best : Option CostedPicks)
    (nodes : List SearchNode) : Type 0 where
  pub searched : IsSearched problem root best nodes
  pub granted : branchings_of (tree_nodes nodes) ≤ grant
  pub ended : HasEnded grant best (tree_nodes nodes)

-- no more branchings and rounds are allowed than there may be
pub record IsWithinLimits (allowed : Allowed) : Type 0 where
  pub branchings : allowed.branchings ≤ MAX_BRANCHINGS
  pub rounds : allowed.rounds ≤ MAX_ROUNDS
