-- A claim has one verdict: each test is failed for one reason at most.
use Rattle.std.proofs.Common.{◌≡◌, ℕ, suc, ◌<◌, ◌≤◌, List, Bool, [], ◌∷◌, ◌++◌, length, take, ℤ, Option, Some, None}
use Rattle.std.proofs.Common.{refl, sym, ◌∙◌, ap, subst, arith, ⊎_elim}
use Rattle.std.specs.Prelude.{⊤}
use Rattle.std.proofs.lemmas.Bool.{cases_lt}
use Rattle.std.proofs.lemmas.List.{length-take-le, take-take}
use Rattle.rail_base.specs.declared.numbers.Money.{Money}
use Rattle.branch_tree.specs.declared.claims.Claim.{Claim}
use Rattle.branch_tree.specs.declared.multipliers.Entry.{Entry}
use Rattle.branch_tree.specs.declared.relaxation.Weight.{Weight}
use Rattle.branch_tree.specs.declared.relaxation.Weight.TheVariants.{Cost, NoCost}
use Rattle.branch_tree.specs.declared.tree.Node.{Node}
use Rattle.branch_tree.specs.declared.tree.Node.TheVariants.{Branch, CostLeaf, RayLeaf, EmptyLeaf}
use Rattle.branch_tree.specs.Claims.{Conclusion, optimal, infeasible, bounded, bounded_plan, CostedPicks, concluded_plan, said_by}
use Rattle.branch_tree.specs.Meanings.{Meanings}
use Rattle.branch_tree.specs.Trees.{IsLeastOf, IsWhole, bounds_of, cut_of, nodes_in}
use Rattle.branch_tree.proofs.Duality.{chain_values_are_one}
use Rattle.cert_check.specs.declared.verdict.Reason.{Reason}
use Rattle.cert_check.specs.declared.verdict.Reason.TheVariants.{TreeShape, BoundDiffers, RayNotPositive}
use Rattle.cert_check.specs.declared.verdict.Reason.TheVariants.{LeastBoundDiffers}
use Rattle.cert_check.specs.declared.verdict.Verdict.TheVariants.{Valid, Invalid}
use Rattle.cert_check.specs.Laws.{VerdictsAreOne}
use Rattle.cert_check.specs.Reasons.{IsAfterTree, IsMisshapen, IsFound, IsBelowCost, IsLeft, HasOtherLeast}
use Rattle.cert_check.specs.Reasons.{money, node_tests, tests_from, plan_tests, leaf_tests, head_tests, claim_tests}
use Rattle.cert_check.specs.Tests.{Test, FirstFails}
use Rattle.cert_check.proofs.Proved.{found_least}
use Rattle.cert_check.proofs.Shapes.{not_after}

-- a test is failed for one reason at most
abbrev IsOne : Test → Type 0
IsOne test = (one other : Reason) → test one → test other → one ≡ other

abbrev AreOne : List Test → Type 0
AreOne [] = ⊤
AreOne (test ∷ tests) = IsOne test × AreOne tests

first_is_one : (tests : List Test) (one other : Reason) → AreOne tests → FirstFails tests one → FirstFails tests other → one ≡ other
first_is_one [] one other are a b = absurd a
first_is_one (test ∷ tests) one other are a b = ⊎_elim
    (λ here. ⊎_elim (λ there. are.0 one other here there) (λ later. absurd (later.0 one here)) b)
    (λ later. ⊎_elim (λ here. absurd (later.0 other here)) (λ more. first_is_one tests one other are.1 later.1 more.1) b)
    a

are_one-append : (tests more : List Test) → AreOne tests → AreOne more → AreOne (tests ++ more)
are_one-append [] more are rest = rest
are_one-append (test ∷ tests) more are rest = (are.0, are_one-append tests more are.1 rest)

-- ---- the list of nodes

-- one place after a whole tree is not below another
not_below_after : (nodes : List Node) (low high : ℕ) → low < high → IsAfterTree nodes low → IsAfterTree nodes high → ⊥
not_below_after nodes low high less first second =
    let long : length (take high nodes) ≡ high = length-take-le high nodes (omega (arith, second.0)) in
    not_after (take high nodes) low (omega (arith, less, long)) (subst IsWhole (sym (take-take low high nodes (omega (arith, less)))) first.1) second.1

one_place : (nodes : List Node) (node other : ℕ) → IsAfterTree nodes node → IsAfterTree nodes other → node ≡ other
one_place nodes node other first second = ⊎_elim
    (λ less. absurd (not_below_after nodes node other less first second))
    (λ most. ⊎_elim (λ less. absurd (not_below_after nodes other node less second first)) (λ least. level node other most least) (cases_lt other node))
    (cases_lt node other)
  where
    level : (a b : ℕ) → b ≤ a → a ≤ b → a ≡ b
    level a b p q = omega (arith, p, q)

one_shape : (nodes : List Node) → IsOne (IsMisshapen nodes)
one_shape nodes one other (node, is, wrong) (node', is', wrong') = is ∙ ap TreeShape (⊎_elim
    (λ after. ⊎_elim (λ after'. one_place nodes node node' after after') (λ missing. absurd (missing.1 node (omega (arith, after.0)) after.1)) wrong')
    (λ missing. ⊎_elim (λ after. absurd (missing.1 node' (omega (arith, after.0)) after.1)) (λ missing'. missing.0 ∙ sym missing'.0) wrong')
    wrong) ∙ sym is'

-- ---- nodes

one_found : (problem : Meanings) (region : List (List Bool)) (multipliers : List Entry) (weight : Weight) (found other : Option Money) →
    IsFound problem region multipliers weight found → IsFound problem region multipliers weight other → found ≡ other
one_found problem region multipliers weight None None a b = refl
one_found problem region multipliers weight None (Some value) empty chain = absurd (empty chain.picks chain.near)
one_found problem region multipliers weight (Some value) None chain empty = absurd (empty chain.picks chain.near)
one_found problem region multipliers weight (Some value) (Some other) a b =
    ap (λ amount. Some (money amount)) (chain_values_are_one problem region multipliers weight value.0 other.0 a b)

one_at : (problem : Meanings) (number : ℕ) (region : List (List Bool)) (node : Node) → AreOne (node_tests problem number region node)
one_at problem number region (Branch cut) = ((λ one other a b. a.0 ∙ sym b.0), tt)
one_at problem number region (CostLeaf bound multipliers) = (
  (λ one other a b. a.0 ∙ sym b.0),
  ((λ one other (found, is, at, differ) (found', is', at', differ'). is ∙ ap (BoundDiffers number bound) (one_found problem region multipliers Cost found found' at at') ∙ sym is'), tt),
)
one_at problem number region (RayLeaf multipliers) = (
  (λ one other a b. a.0 ∙ sym b.0),
  ((λ one other (found, is, at, low) (found', is', at', low'). is ∙ ap (RayNotPositive number) (one_found problem region multipliers NoCost found found' at at') ∙ sym is'), tt),
)
one_at problem number region EmptyLeaf = ((λ one other a b. a.0 ∙ sym b.0), tt)

one_from : (problem : Meanings) (number : ℕ) (placed : List (List (List Bool) × Node)) → AreOne (tests_from problem number placed)
one_from problem number [] = tt
one_from problem number (at ∷ rest) = are_one-append (node_tests problem number at.0 at.1) (tests_from problem (suc number) rest) (one_at problem number at.0 at.1) (one_from problem (suc number) rest)

-- ---- picks, and what is said

one_plan : (problem : Meanings) (root : List (List Bool)) (plan : Option CostedPicks) → AreOne (plan_tests problem root plan)
one_plan problem root None = tt
one_plan problem root (Some plan) = ((λ one other a b. a.0 ∙ sym b.0), ((λ one other a b. a.0 ∙ sym b.0), tt))

one_leaf : (test : ℕ → Money → Test) → ((number : ℕ) (bound : Money) → IsOne (test number bound)) → (number : ℕ) (nodes : List Node) → AreOne (leaf_tests test number nodes)
one_leaf test are number [] = tt
one_leaf test are number (Branch cut ∷ nodes) = one_leaf test are (suc number) nodes
one_leaf test are number (CostLeaf bound multipliers ∷ nodes) = (are number bound, one_leaf test are (suc number) nodes)
one_leaf test are number (RayLeaf multipliers ∷ nodes) = one_leaf test are (suc number) nodes
one_leaf test are number (EmptyLeaf ∷ nodes) = one_leaf test are (suc number) nodes

one_least : (bounds : List ℤ) (found other : Option Money) → IsLeastOf bounds found → IsLeastOf bounds other → found ≡ other
one_least bounds None None a b = refl
one_least bounds None (Some least) a b = found_least bounds least.0 None b a
one_least bounds (Some least) other a b = sym (found_least bounds least.0 other a b)

one_other : (bound : ℤ) (nodes : List Node) → AreOne (HasOtherLeast bound nodes ∷ [])
one_other bound nodes = (
  (λ one other (found, is, at, differ) (found', is', at', differ'). is ∙ ap (LeastBoundDiffers (money bound)) (one_least (bounds_of nodes) found found' at at') ∙ sym is'),
  tt,
)

one_head : (conclusion : Conclusion) (nodes : List Node) → AreOne (head_tests conclusion nodes)
one_head (optimal plan) nodes = one_leaf (IsBelowCost plan.cost) (λ number bound one other a b. a.0 ∙ sym b.0) 0 nodes
one_head infeasible nodes = one_leaf IsLeft (λ number bound one other a b. a ∙ sym b) 0 nodes
one_head (bounded bound) nodes = one_other bound nodes
one_head (bounded_plan bound plan) nodes = one_other bound nodes

one_claim : (problem : Meanings) (root : List (List Bool)) (claim : Claim) → AreOne (claim_tests problem root claim)
one_claim problem root claim =
    let said = said_by claim.head in (
      one_shape claim.tree.now,
      (
        (λ one other a b. a.0 ∙ sym b.0),
        are_one-append (tests_from problem 0 (nodes_in cut_of problem.catalogue (root ∷ []) claim.tree.now)) (plan_tests problem root (concluded_plan said) ++ head_tests said claim.tree.now)
            (one_from problem 0 (nodes_in cut_of problem.catalogue (root ∷ []) claim.tree.now))
            (are_one-append (plan_tests problem root (concluded_plan said)) (head_tests said claim.tree.now) (one_plan problem root (concluded_plan said)) (one_head said claim.tree.now)),
      ),
    )

pub verdicts_are_one : (problem : Meanings) → VerdictsAreOne problem
verdicts_are_one problem root claim Valid Valid a b = refl
verdicts_are_one problem root claim Valid (Invalid reason) a b = absurd (b.0 a.0)
verdicts_are_one problem root claim (Invalid reason) Valid a b = absurd (a.0 b.0)
verdicts_are_one problem root claim (Invalid one) (Invalid other) a b = ap Invalid (first_is_one (claim_tests problem root claim) one other (one_claim problem root claim) a.1 b.1)
