-- A node that is put among those of a search, and a node that is branched.
use Rattle.std.specs.Prelude.{ℕ, ◌≡◌, ◌+◌, ◌*◌, List, [], All, Bool, Option, true, length}
use Rattle.std.specs.List.{insert}
use Rattle.branch_tree.specs.declared.multipliers.Entry.{Entry}
use Rattle.branch_tree.specs.Claims.{CostedPicks, is_open}
use Rattle.branch_tree.specs.Meanings.{Meanings}
use Rattle.branch_tree.specs.Trees.{branchings_of}
use Rattle.search.specs.declared.nodes.NewNode.{NewNode}
use Rattle.search.specs.declared.nodes.SearchNode.{SearchNode}
use Rattle.search.specs.declared.nodes.SearchNode.TheVariants.{Fixed, Pending}
use Rattle.search.specs.declared.solving.Search.{Search}
use Rattle.search.specs.declared.solving.Terms.{Terms}
use Rattle.search.specs.Conclusions.{plan_in}
use Rattle.search.specs.Frontiers.{IsEntered}
use Rattle.search.specs.declared.nodes.Division.{Division}
use Rattle.search.specs.declared.evaluation.EvaluationEnd.{EvaluationEnd}
use Rattle.search.specs.declared.evaluation.EvaluationEnd.TheVariants.{Ended, Open}
use Rattle.search.specs.declared.work.Work.{Work}
use Rattle.search.specs.Evaluations.{IsOutcome, leaf_of}
use Rattle.search.specs.Ends.{HaveKeptUp}
use Rattle.search.specs.Nodes.{IsDivisionAt, IsLeafOf, IsSearched, branched, tree_node, tree_nodes}
use Rattle.search.specs.Improvements.{AreImproved}
use Rattle.search.specs.NodeAdvice.{CallTest}
use Rattle.search.specs.NodesInWork.{HasInherited, begun, node_from}
use Rattle.search.specs.Offers.{IsOffered}
use Rattle.search.specs.Questions.{AreAsked, in_rounds}
use Rattle.search.specs.Rounds.{AreAdvised}

-- a node that may be branched has this number
abbrev pub IsNumbered : ℕ → SearchNode → Type 0
IsNumbered number (Fixed node) = Unit {0}
IsNumbered number (Pending node) = node.number ≡ number

-- A node in work was evaluated under what it inherits, after which the best solution is the one before or a cheaper one
-- of its region; then the improver was asked about it so many times, and what it proposed was used; and then the rounds
-- of advice were made.
pub record IsInheritedAndAdvised {A : Type 0} (has_quit : A → Bool) (has_answered : CallTest A) (problem : Meanings)
    (root : List (List Bool)) (rounds : ℕ) (inherited : List Entry) (advisors later : List A)
    (earlier best : Option CostedPicks) (before after : Work) : Type 0 where
  pub middle : Option CostedPicks
  pub with_inherited : Work
  pub first : HasInherited problem earlier middle inherited before with_inherited
  pub offered : IsOffered problem before.region earlier middle
  pub attempts : ℕ
  pub improved : Option CostedPicks
  pub with_improved : Work
  pub improvements : AreImproved problem root attempts middle improved with_inherited with_improved
  pub asked : AreAdvised has_quit has_answered problem rounds advisors later improved best with_improved after

-- what a node is made of after the first evaluation of its region: the end that this shows, about which nothing is
-- asked; or what it inherits, the improvements and the rounds of advice
abbrev pub IsMadeAfter : {A : Type 0} → (A → Bool) → CallTest A → Meanings → List (List Bool) → ℕ → List A → List A →
    Option CostedPicks → Option CostedPicks → List (List Bool) → List Entry → ℕ → EvaluationEnd → SearchNode → Type 0
IsMadeAfter has_quit has_answered problem root rounds advisors later middle best region inherited number (Ended ending)
    node = (node ≡ Fixed (leaf_of ending)) × (best ≡ middle) × (later ≡ advisors)
IsMadeAfter has_quit has_answered problem root rounds advisors later middle best region inherited number
    (Open evaluation) node = (work : Work) × IsInheritedAndAdvised has_quit has_answered problem root rounds inherited
    advisors later middle best (begun region evaluation) work × (node ≡ node_from number best work)

-- A node was made of a region: it was evaluated with no multipliers, after which the best solution is the one before or
-- a cheaper one of the region; and then, where that leaves it open, under those that it inherits and as the improver
-- and the advisors propose.
pub record IsMade {A : Type 0} (has_quit : A → Bool) (has_answered : CallTest A) (problem : Meanings)
    (root : List (List Bool)) (rounds : ℕ) (advisors later : List A) (earlier best : Option CostedPicks)
    (region : List (List Bool)) (inherited : List Entry) (number : ℕ) (node : SearchNode) : Type 0 where
  pub middle : Option CostedPicks
  pub outcome : EvaluationEnd
  pub first : IsOutcome problem region [] middle outcome
  pub offered : IsOffered problem region earlier middle
  pub after : IsMadeAfter has_quit has_answered problem root rounds advisors later middle best region inherited number
      outcome node

-- what is made of a new node is a leaf over its region: where it may be branched it has its number, and where it is
-- open `Done` holds
pub record IsNewLeaf (problem : Meanings) (best : Option CostedPicks) (node : NewNode) (Done : Type 0)
    (made : SearchNode) : Type 0 where
  pub leaf : IsLeafOf problem best node.region made
  pub number : IsNumbered node.number made
  pub done : is_open best (tree_node made) ≡ true → Done

-- a leaf that was made of a new node is put at its place and entered in the frontier, as the others still are
pub record IsPut (problem : Meanings) (node : NewNode) (before after : Search) (Made : SearchNode → Type 0)
    (Done : Type 0) : Type 0 where
  pub leaf : SearchNode
  pub known : IsNewLeaf problem (plan_in after.best) node Done leaf
  pub made : Made leaf
  pub nodes : after.nodes.items ≡ insert before.nodes.items node.place leaf
  pub entered : (best : Option CostedPicks) → IsEntered best after.frontier leaf
  pub others : (best : Option CostedPicks) (other : SearchNode) →
      IsEntered best before.frontier other → IsEntered best after.frontier other

-- The open node at a place was branched: by a division of it, and behind the branch stand two nodes. Where these may be
-- branched they have the next two numbers, the first one the lower. The best solution is that of the first side, and
-- then of the second. The nodes are made of the sides of the division, which inherit its multipliers: that of the first
-- side before that of the second.
pub record IsBranchedAt {A : Type 0} (has_quit : A → Bool) (has_answered : CallTest A) (problem : Meanings)
    (root : List (List Bool)) (rounds : ℕ) (advisors later : List A) (best best' : Option CostedPicks)
    (before after : List SearchNode) (place : ℕ) : Type 0 where
  pub division : Division
  pub left : SearchNode
  pub right : SearchNode
  pub at : IsDivisionAt problem best before place division
  pub nodes : after ≡ branched before place division.cut left right
  pub left_number : IsNumbered (length before) left
  pub right_number : IsNumbered (length before + 1) right
  pub middle : Option CostedPicks
  pub first : IsOffered problem root best middle
  pub second : IsOffered problem root middle best'
  pub between : List A
  pub left_made : IsMade has_quit has_answered problem root rounds advisors between best middle division.left
      division.multipliers (length before) left
  pub right_made : IsMade has_quit has_answered problem root rounds between later middle best' division.right
      division.multipliers (length before + 1) right

-- a search of a root is under way: its nodes are a tree over the root, and its frontier has those that are open
pub record IsUnderWay (problem : Meanings) (root : List (List Bool)) (search : Search) : Type 0 where
  pub searched : IsSearched problem root (plan_in search.best) search.nodes.items
  pub entered : All (IsEntered (plan_in search.best) search.frontier) search.nodes.items

-- The open node at a place of a search was branched. The search is still under way, with one branching more. Where
-- there are rounds, each advisor that has not quit was asked at least as often as there are more branchings and open
-- leaves.
pub record HasBranched {A : Type 0} (asked : A → ℕ) (has_quit : A → Bool) (has_answered : CallTest A)
    (problem : Meanings) (terms : Terms) (advisors later : List A) (before after : Search) (place : ℕ) : Type 0 where
  pub under_way : IsUnderWay problem terms.root.now after
  pub one : branchings_of (tree_nodes after.nodes.items) ≡ branchings_of (tree_nodes before.nodes.items) + 1
  pub branched : IsBranchedAt has_quit has_answered problem terms.root.now terms.allowed.rounds advisors later
      (plan_in before.best) (plan_in after.best) before.nodes.items after.nodes.items place
  pub counted : HaveKeptUp (plan_in before.best) (tree_nodes before.nodes.items) (plan_in after.best)
      (tree_nodes after.nodes.items) (λ times. AreAsked advisors later asked has_quit
      (in_rounds terms.allowed.rounds times) (2 * terms.allowed.rounds))
