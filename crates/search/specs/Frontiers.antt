-- The frontier of a search: which nodes it has, and which of them it names.
use Rattle.std.specs.Prelude.{ℕ, ◌≡◌, ◌<◌, ◌&&◌, List, length, slice_index_or, All, Bool, true, false, Option, nat_eq}
use Rattle.std.specs.declared.cmp.Ordering.{Ordering}
use Rattle.std.specs.Ordering.{int_cmp, nat_cmp, ordering_then, int_eq, is_gt}
use Rattle.std.specs.BTreeMap.{ContainsKey}
use Rattle.rail_base.specs.declared.numbers.Money.{Money}
use Rattle.branch_tree.specs.Claims.{CostedPicks, is_below}
use Rattle.search.specs.declared.frontier.Frontier.{Frontier}
use Rattle.search.specs.declared.nodes.SearchNode.{SearchNode}
use Rattle.search.specs.declared.nodes.SearchNode.TheVariants.{Fixed, Pending}

-- whether a node may be branched and leaves room for a better solution
abbrev pub is_open_node : Option CostedPicks → SearchNode → Bool
is_open_node best (Fixed node) = false
is_open_node best (Pending node) = is_below node.bound.0 best

-- the node at a place may be branched, and leaves room for a better solution
pub record IsOpenAt (best : Option CostedPicks) (nodes : List SearchNode) (place : ℕ) : Type 0 where
  pub within : place < length nodes
  pub here : (node : SearchNode) → is_open_node best (slice_index_or nodes place node) ≡ true

-- the order of ranks: by bound, and then by number
abbrev pub rank_order : Money × ℕ → Money × ℕ → Ordering
rank_order one other = ordering_then (int_cmp one.0.0 other.0.0) (nat_cmp one.1 other.1)

-- whether a node may be branched and has this bound and number
abbrev pub has_rank : Money → ℕ → SearchNode → Bool
has_rank bound number (Fixed node) = false
has_rank bound number (Pending node) = int_eq node.bound.0 bound.0 && nat_eq node.number number

-- a rank is not above that of a node which may be branched
abbrev pub IsUpTo : Money → ℕ → SearchNode → Type 0
IsUpTo bound number (Fixed node) = Unit {0}
IsUpTo bound number (Pending node) = is_gt (rank_order (bound, number) (node.bound, node.number)) ≡ false

-- the node at a place has the least rank of those that may be branched and leave room for a better solution
pub record HasLeastRank (best : Option CostedPicks) (nodes : List SearchNode) (place : ℕ) : Type 0 where
  pub bound : Money
  pub number : ℕ
  pub here : (node : SearchNode) → has_rank bound number (slice_index_or nodes place node) ≡ true
  pub least : All (λ node. is_open_node best node ≡ true → IsUpTo bound number node) nodes

-- the node at a place is the next one to be branched: it is open, and of the open ones it has the least rank
pub record IsNextAt (best : Option CostedPicks) (nodes : List SearchNode) (place : ℕ) : Type 0 where
  pub opens : IsOpenAt best nodes place
  pub least : HasLeastRank best nodes place

-- a frontier has the rank of a node, where it may be branched and leaves room for a better solution
abbrev pub IsEntered : Option CostedPicks → Frontier → SearchNode → Type 0
IsEntered best frontier (Fixed node) = Unit {0}
IsEntered best frontier (Pending node) =
    is_below node.bound.0 best ≡ true → ContainsKey rank_order frontier.ranks (node.bound, node.number)
