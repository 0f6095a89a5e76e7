-- The nodes of a tree that are still to be tested, on the way through them in preorder.
use Rattle.std.proofs.Common.{◌≡◌, ℕ, suc, List, Bool, [], ◌∷◌, ◌++◌, ◌+◌, ◌<◌, length, drop, slice_get, Some, refl}
use Rattle.std.proofs.Common.{subst}
use Rattle.branch_tree.specs.declared.tree.Node.{Node}
use Rattle.branch_tree.specs.Claims.{IsProvedAt}
use Rattle.branch_tree.specs.Meanings.{Meanings}
use Rattle.branch_tree.specs.Trees.{Covers, IsWhole, Walks, cut_of, nodes_in, regions_below}
use Rattle.cert_check.specs.declared.verdict.Reason.{Reason}
use Rattle.cert_check.specs.Reasons.{node_tests, tests_from}
use Rattle.cert_check.specs.Tests.{FirstFails}
use Rattle.cert_check.proofs.Listed.{one_more, drop_at_node}
use Rattle.cert_check.proofs.Proved.{none_at}
use Rattle.cert_check.proofs.Shapes.{opens_of_whole, walk_of_opens}
use Rattle.cert_check.proofs.Testing.{first_front, first_behind}

-- what the nodes from a number on say of the whole tree, where those before it passed their tests
pub record IsOnWay (problem : Meanings) (root : List (List Bool)) (all : List Node) (number : ℕ) (regions : List (List (List Bool))) (rest : List Node) : Type 0 where
  pub whole : Walks cut_of problem.catalogue (λ region node. Unit {0}) regions rest
  pub covers : Walks cut_of problem.catalogue (IsProvedAt problem) regions rest → Covers problem.catalogue (IsProvedAt problem) root all
  pub first : (reason : Reason) → FirstFails (tests_from problem number (nodes_in cut_of problem.catalogue regions rest)) reason →
      FirstFails (tests_from problem 0 (nodes_in cut_of problem.catalogue (root ∷ []) all)) reason

pub way_begins : (problem : Meanings) (root : List (List Bool)) (all : List Node) → IsWhole all → IsOnWay problem root all 0 (root ∷ []) all
way_begins problem root all whole = record {
  whole = walk_of_opens problem.catalogue (root ∷ []) all (opens_of_whole all whole);
  covers = λ walks. walks;
  first = λ reason fails. fails;
}

pub way_goes_on : (problem : Meanings) (root : List (List Bool)) (all : List Node) (number : ℕ) (region : List (List Bool)) (regions : List (List (List Bool))) (node : Node) (rest : List Node) →
    IsProvedAt problem region node → IsOnWay problem root all number (region ∷ regions) (node ∷ rest) →
    IsOnWay problem root all (suc number) (regions_below problem.catalogue region (cut_of node) ++ regions) rest
way_goes_on problem root all number region regions node rest proved way =
    let later = regions_below problem.catalogue region (cut_of node) ++ regions in
    record {
      whole = way.whole.1;
      covers = λ walks. way.covers (proved, walks);
      first = λ reason fails. way.first reason (first_behind (node_tests problem number region node)
          (tests_from problem (suc number) (nodes_in cut_of problem.catalogue later rest)) reason (none_at problem number region node proved) fails);
    }

pub way_stops : (problem : Meanings) (root : List (List Bool)) (all : List Node) (number : ℕ) (region : List (List Bool)) (regions : List (List (List Bool))) (node : Node) (rest : List Node) (reason : Reason) →
    FirstFails (node_tests problem number region node) reason → IsOnWay problem root all number (region ∷ regions) (node ∷ rest) →
    FirstFails (tests_from problem 0 (nodes_in cut_of problem.catalogue (root ∷ []) all)) reason
way_stops problem root all number region regions node rest reason fails way =
    way.first reason (first_front (node_tests problem number region node)
    (tests_from problem (suc number) (nodes_in cut_of problem.catalogue (regions_below problem.catalogue region (cut_of node) ++ regions) rest)) reason fails)

-- ---- by the number of a node

pub goes_on_at : (problem : Meanings) (root : List (List Bool)) (all : List Node) (number : ℕ) (region : List (List Bool)) (regions : List (List (List Bool))) (node : Node) →
    number < length all → slice_get all number ≡ Some node → IsProvedAt problem region node → IsOnWay problem root all number (region ∷ regions) (drop number all) →
    IsOnWay problem root all (number + 1) (regions_below problem.catalogue region (cut_of node) ++ regions) (drop (number + 1) all)
goes_on_at problem root all number region regions node inside at proved way =
    subst (λ n. IsOnWay problem root all n (regions_below problem.catalogue region (cut_of node) ++ regions) (drop (number + 1) all)) (one_more number)
    (way_goes_on problem root all number region regions node (drop (number + 1) all) proved (subst (IsOnWay problem root all number (region ∷ regions)) (drop_at_node all number node inside at) way))

pub stops_at : (problem : Meanings) (root : List (List Bool)) (all : List Node) (number : ℕ) (region : List (List Bool)) (regions : List (List (List Bool))) (node : Node) (reason : Reason) →
    number < length all → slice_get all number ≡ Some node → FirstFails (node_tests problem number region node) reason → IsOnWay problem root all number (region ∷ regions) (drop number all) →
    FirstFails (tests_from problem 0 (nodes_in cut_of problem.catalogue (root ∷ []) all)) reason
stops_at problem root all number region regions node reason inside at fails way =
    way_stops problem root all number region regions node (drop (number + 1) all) reason fails (subst (IsOnWay problem root all number (region ∷ regions)) (drop_at_node all number node inside at) way)

-- while nodes are to come, so is a region
pub record HasNext (regions : List (List (List Bool))) : Type 0 where
  pub region : List (List Bool)
  pub rest : List (List (List Bool))
  pub is : regions ≡ region ∷ rest

pub has_next : (problem : Meanings) (root : List (List Bool)) (all : List Node) (number : ℕ) (regions : List (List (List Bool))) (node : Node) →
    number < length all → slice_get all number ≡ Some node → IsOnWay problem root all number regions (drop number all) → HasNext regions
has_next problem root all number [] node inside at way = absurd (subst (IsOnWay problem root all number []) (drop_at_node all number node inside at) way).whole
has_next problem root all number (region ∷ regions) node inside at way = record { region = region; rest = regions; is = refl }
