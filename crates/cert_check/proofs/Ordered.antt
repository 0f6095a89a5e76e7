-- The first test that a claim fails: in its list of nodes, at a node, in its picks, or in what it says.
use Rattle.std.proofs.Common.{◌≡◌, List, Bool, [], ◌∷◌, ◌++◌, inl, inr}
use Rattle.std.specs.Prelude.{MatchOption}
use Rattle.branch_tree.specs.declared.claims.Claim.{Claim}
use Rattle.branch_tree.specs.Claims.{IsProvedAt, IsPlanIn, concluded_plan, said_by}
use Rattle.branch_tree.specs.Meanings.{Meanings, IsRelaxation}
use Rattle.branch_tree.specs.Trees.{Covers, IsWhole, branchings_of, cut_of, nodes_in}
use Rattle.cert_check.specs.declared.verdict.Reason.{Reason}
use Rattle.cert_check.specs.Reasons.{IsMisshapen, HasOtherBranchings, tests_from, plan_tests, head_tests, claim_tests}
use Rattle.cert_check.specs.Tests.{Test, FirstFails}
use Rattle.cert_check.proofs.Proved.{list_passes, none_from, none_plan}
use Rattle.cert_check.proofs.Shapes.{not_misshapen}
use Rattle.cert_check.proofs.Testing.{first_front, first_behind}

-- the tests of the list of nodes, of each node, of the picks, and of what is said
list_of : Claim → List Test
list_of claim = IsMisshapen claim.tree.now ∷ HasOtherBranchings claim.branchings claim.tree.now ∷ []

nodes_of : Meanings → List (List Bool) → Claim → List Test
nodes_of problem root claim = tests_from problem 0 (nodes_in cut_of problem.catalogue (root ∷ []) claim.tree.now)

picks_of : Meanings → List (List Bool) → Claim → List Test
picks_of problem root claim = plan_tests problem root (concluded_plan (said_by claim.head))

heads_of : Claim → List Test
heads_of claim = head_tests (said_by claim.head) claim.tree.now

pub fails_branchings : (problem : Meanings) (root : List (List Bool)) (claim : Claim) (reason : Reason) → IsWhole claim.tree.now → HasOtherBranchings claim.branchings claim.tree.now reason →
    FirstFails (claim_tests problem root claim) reason
fails_branchings problem root claim reason whole wrong = inr (not_misshapen claim.tree.now whole, inl wrong)

-- the tests of the list are passed
pub record ListPasses (claim : Claim) : Type 0 where
  pub whole : IsWhole claim.tree.now
  pub same : branchings_of claim.tree.now ≡ claim.branchings

pub fails_node : (problem : Meanings) (root : List (List Bool)) (claim : Claim) (reason : Reason) → ListPasses claim →
    FirstFails (tests_from problem 0 (nodes_in cut_of problem.catalogue (root ∷ []) claim.tree.now)) reason → FirstFails (claim_tests problem root claim) reason
unfolding list_of nodes_of picks_of heads_of
fails_node problem root claim reason list wrong =
    first_behind (list_of claim) (nodes_of problem root claim ++ (picks_of problem root claim ++ heads_of claim)) reason (list_passes claim list.whole list.same)
    (first_front (nodes_of problem root claim) (picks_of problem root claim ++ heads_of claim) reason wrong)

pub fails_picks : (problem : Meanings) (root : List (List Bool)) (claim : Claim) (reason : Reason) → ListPasses claim → Covers problem.catalogue (IsProvedAt problem) root claim.tree.now →
    FirstFails (plan_tests problem root (concluded_plan (said_by claim.head))) reason → FirstFails (claim_tests problem root claim) reason
unfolding list_of nodes_of picks_of heads_of
fails_picks problem root claim reason list nodes wrong =
    first_behind (list_of claim) (nodes_of problem root claim ++ (picks_of problem root claim ++ heads_of claim)) reason (list_passes claim list.whole list.same)
    (first_behind (nodes_of problem root claim) (picks_of problem root claim ++ heads_of claim) reason (none_from problem 0 (root ∷ []) claim.tree.now nodes)
    (first_front (picks_of problem root claim) (heads_of claim) reason wrong))

pub fails_head : (problem : Meanings) → IsRelaxation problem → (root : List (List Bool)) (claim : Claim) (reason : Reason) → ListPasses claim → Covers problem.catalogue (IsProvedAt problem) root claim.tree.now →
    MatchOption (concluded_plan (said_by claim.head)) (Unit {0}) (IsPlanIn problem root) → FirstFails (head_tests (said_by claim.head) claim.tree.now) reason → FirstFails (claim_tests problem root claim) reason
unfolding list_of nodes_of picks_of heads_of
fails_head problem relaxation root claim reason list nodes plan wrong =
    first_behind (list_of claim) (nodes_of problem root claim ++ (picks_of problem root claim ++ heads_of claim)) reason (list_passes claim list.whole list.same)
    (first_behind (nodes_of problem root claim) (picks_of problem root claim ++ heads_of claim) reason (none_from problem 0 (root ∷ []) claim.tree.now nodes)
    (first_behind (picks_of problem root claim) (heads_of claim) reason (none_plan problem relaxation root (concluded_plan (said_by claim.head)) plan) wrong))
