-- A claim that its tree proves fails no test.
use Rattle.std.proofs.Common.{◌≡◌, ℕ, suc, List, Bool, [], ◌∷◌, ◌++◌, ℤ, pos, ◌≤ℤ◌, ◌<ℤ◌, All, Contains, Option, Some}
use Rattle.std.proofs.Common.{None, sym, ap, subst, arith, ⊎_elim}
use Rattle.std.specs.Prelude.{MatchOption}
use Rattle.std.proofs.lemmas.Int.{ints}
use Rattle.std.proofs.lemmas.List.Elements.{All-head, All-tail, All-contains}
use Rattle.rail_base.specs.declared.numbers.Money.{Money}
use Rattle.branch_tree.specs.declared.claims.Claim.{Claim}
use Rattle.branch_tree.specs.declared.multipliers.Entry.{Entry}
use Rattle.branch_tree.specs.declared.relaxation.Weight.TheVariants.{Cost, NoCost}
use Rattle.branch_tree.specs.declared.tree.Node.{Node}
use Rattle.branch_tree.specs.declared.tree.Node.TheVariants.{Branch, CostLeaf, RayLeaf, EmptyLeaf}
use Rattle.branch_tree.specs.Bounds.{IsChainValue}
use Rattle.branch_tree.specs.Claims.{Conclusion, optimal, infeasible, bounded, bounded_plan, CostedPicks, concluded_plan, said_by}
use Rattle.branch_tree.specs.Claims.{IsPlanIn, IsRay, IsProvedAt, IsProvedClaim, DoBound}
use Rattle.branch_tree.specs.Meanings.{Meanings, IsRelaxation}
use Rattle.branch_tree.specs.Trees.{Covers, IsLeast, IsLeastOf, IsWhole, Walks, branchings_of, bounds_of, cut_of, nodes_in, regions_below}
use Rattle.branch_tree.proofs.Duality.{chain_values_are_one}
use Rattle.branch_tree.proofs.Walking.{proved_at_each_node}
use Rattle.cert_check.specs.Reasons.{IsFound, IsMisshapen, HasOtherBranchings, HasOtherLeast, IsBelowCost, IsLeft}
use Rattle.cert_check.specs.Reasons.{money, node_tests, tests_from, plan_tests, leaf_tests, head_tests, claim_tests}
use Rattle.cert_check.specs.Tests.{NoneFails, IsPassed}
use Rattle.cert_check.proofs.Shapes.{not_misshapen}
use Rattle.cert_check.proofs.Testing.{none_append}

pub not_other_branchings : (said : ℕ) (nodes : List Node) → branchings_of nodes ≡ said → IsPassed (HasOtherBranchings said nodes)
not_other_branchings said nodes same reason (is, differ) = differ (sym same)

-- ---- nodes

-- what is found for a region that has a chain value
found_value : (problem : Meanings) (region : List (List Bool)) (multipliers : List Entry) (value : Money) (found : Option Money) →
    IsChainValue problem region multipliers Cost value.0 → IsFound problem region multipliers Cost found → found ≡ Some value
found_value problem region multipliers value None chain empty = absurd (empty chain.picks chain.near)
found_value problem region multipliers value (Some other) chain found =
    ap (λ amount. Some (money amount)) (chain_values_are_one problem region multipliers Cost other.0 value.0 found chain)

found_ray : (problem : Meanings) (region : List (List Bool)) (multipliers : List Entry) (found : Option Money) →
    IsRay problem region multipliers → IsFound problem region multipliers NoCost found → MatchOption found (Unit {0}) (λ value. value.0 ≤ℤ pos 0) → ⊥
found_ray problem region multipliers None (value, chain, positive) empty not = empty chain.picks chain.near
found_ray problem region multipliers (Some other) (value, chain, positive) found not =
    contrary value other.0 (chain_values_are_one problem region multipliers NoCost value other.0 chain found) positive not
  where
    contrary : (a b : ℤ) → a ≡ b → pos 0 <ℤ a → b ≤ℤ pos 0 → ⊥
    contrary a b same high low = omega (arith, ints, same, high, low)

pub none_at : (problem : Meanings) (number : ℕ) (region : List (List Bool)) (node : Node) → IsProvedAt problem region node → NoneFails (node_tests problem number region node)
none_at problem number region (Branch cut) proved = ((λ reason (is, improper). improper proved.proper), tt)
none_at problem number region (CostLeaf bound multipliers) proved = (
  (λ reason (is, unfit). unfit proved.fitting),
  ((λ reason (found, is, at, differ). differ (found_value problem region multipliers bound found proved.bound at)), tt),
)
none_at problem number region (RayLeaf multipliers) proved = (
  (λ reason (is, unfit). unfit proved.fitting),
  ((λ reason (found, is, at, not). found_ray problem region multipliers found proved.ray at not), tt),
)
none_at problem number region EmptyLeaf proved = ((λ reason (is, some). some proved.empty), tt)

pub none_from : (problem : Meanings) (number : ℕ) (regions : List (List (List Bool))) (nodes : List Node) → Walks cut_of problem.catalogue (IsProvedAt problem) regions nodes →
    NoneFails (tests_from problem number (nodes_in cut_of problem.catalogue regions nodes))
none_from problem number regions [] walks = tt
none_from problem number [] (node ∷ nodes) walks = absurd walks
none_from problem number (region ∷ regions) (node ∷ nodes) walks =
    let later = regions_below problem.catalogue region (cut_of node) ++ regions in
    none_append (node_tests problem number region node) (tests_from problem (suc number) (nodes_in cut_of problem.catalogue later nodes))
    (none_at problem number region node walks.0) (none_from problem (suc number) later nodes walks.1)

-- ---- picks

pub none_plan : (problem : Meanings) → IsRelaxation problem → (root : List (List Bool)) (plan : Option CostedPicks) → MatchOption plan (Unit {0}) (IsPlanIn problem root) →
    NoneFails (plan_tests problem root plan)
none_plan problem relaxation root None is = tt
none_plan problem relaxation root (Some plan) is = (
  (λ reason (same, fail). ⊎_elim (λ outside. outside is.inside)
      (λ rest. ⊎_elim (λ not. not (relaxation.near_follow plan.picks root (relaxation.solution_near plan.picks root is.solution is.inside))) (λ not. not is.solution) rest) fail),
  ((λ reason (same, differ). differ (sym is.cost)), tt),
)

-- ---- what is said of all solutions

none_below : (cost : ℤ) (number : ℕ) (nodes : List Node) → All (λ bound. cost ≤ℤ bound) (bounds_of nodes) → NoneFails (leaf_tests (IsBelowCost cost) number nodes)
none_below cost number [] all = tt
none_below cost number (Branch cut ∷ nodes) all = none_below cost (suc number) nodes all
none_below cost number (CostLeaf bound multipliers ∷ nodes) all = (
  (λ reason (is, less). contrary cost bound.0 (All-head (λ b. cost ≤ℤ b) bound.0 (bounds_of nodes) all) less),
  none_below cost (suc number) nodes (All-tail (λ b. cost ≤ℤ b) bound.0 (bounds_of nodes) all),
)
  where
    contrary : (a b : ℤ) → a ≤ℤ b → b <ℤ a → ⊥
    contrary a b p q = omega (arith, ints, p, q)
none_below cost number (RayLeaf multipliers ∷ nodes) all = none_below cost (suc number) nodes all
none_below cost number (EmptyLeaf ∷ nodes) all = none_below cost (suc number) nodes all

none_left : (number : ℕ) (nodes : List Node) → bounds_of nodes ≡ [] → NoneFails (leaf_tests IsLeft number nodes)
none_left number [] none = tt
none_left number (Branch cut ∷ nodes) none = none_left (suc number) nodes none
none_left number (CostLeaf bound multipliers ∷ nodes) none = absurd (cc)
none_left number (RayLeaf multipliers ∷ nodes) none = none_left (suc number) nodes none
none_left number (EmptyLeaf ∷ nodes) none = none_left (suc number) nodes none

-- what is found of bounds that have a least one
pub found_least : (bounds : List ℤ) (least : ℤ) (found : Option Money) → IsLeast bounds least → IsLeastOf bounds found → found ≡ Some (money least)
found_least bounds least None is none = absurd (none_contained least (subst (λ bs. Contains bs least) none is.one))
  where
    none_contained : (x : ℤ) → Contains [] x → ⊥
    none_contained x (k, below, at) = absurd (omega (arith, below))
found_least bounds least (Some other) is found = ap (λ amount. Some (money amount)) (level other.0 least
    (All-contains (λ number. other.0 ≤ℤ number) bounds least found.all is.one) (All-contains (λ number. least ≤ℤ number) bounds other.0 is.all found.one))
  where
    level : (a b : ℤ) → a ≤ℤ b → b ≤ℤ a → a ≡ b
    level a b p q = omega (arith, ints, p, q)

none_other : (bound : ℤ) (nodes : List Node) → IsLeast (bounds_of nodes) bound → NoneFails (HasOtherLeast bound nodes ∷ [])
none_other bound nodes is = ((λ reason (found, same, least, differ). differ (found_least (bounds_of nodes) bound found is least)), tt)

pub none_said : (conclusion : Conclusion) (nodes : List Node) → DoBound (bounds_of nodes) conclusion → NoneFails (head_tests conclusion nodes)
none_said (optimal plan) nodes bound = none_below plan.cost 0 nodes bound
none_said infeasible nodes bound = none_left 0 nodes bound
none_said (bounded value) nodes bound = none_other value nodes bound
none_said (bounded_plan value plan) nodes bound = none_other value nodes bound

-- ---- the whole claim

-- what proves a claim: its list of nodes, its nodes, its picks, and what is said
pub record Proves (problem : Meanings) (root : List (List Bool)) (claim : Claim) : Type 0 where
  pub whole : IsWhole claim.tree.now
  pub branchings : branchings_of claim.tree.now ≡ claim.branchings
  pub nodes : Covers problem.catalogue (IsProvedAt problem) root claim.tree.now
  pub plan : MatchOption (concluded_plan (said_by claim.head)) (Unit {0}) (IsPlanIn problem root)
  pub said : DoBound (bounds_of claim.tree.now) (said_by claim.head)

pub is_proved : (problem : Meanings) (root : List (List Bool)) (claim : Claim) → Proves problem root claim → IsProvedClaim problem root claim
is_proved problem root claim proves =
    let each = (proved_at_each_node problem root claim.tree.now).0 proves.nodes in
    record {
      whole = (proves.whole, proves.branchings);
      proper = each.0;
      fitting = each.1;
      bounds = each.2;
      rays = each.3;
      empty = each.4;
      plan = proves.plan;
      head = proves.said;
    }

pub does_prove : (problem : Meanings) (root : List (List Bool)) (claim : Claim) → IsProvedClaim problem root claim → Proves problem root claim
does_prove problem root claim proved = record {
  whole = proved.whole.0;
  branchings = proved.whole.1;
  nodes = (proved_at_each_node problem root claim.tree.now).1 (proved.proper, proved.fitting, proved.bounds, proved.rays, proved.empty);
  plan = proved.plan;
  said = proved.head;
}

pub list_passes : (claim : Claim) → IsWhole claim.tree.now → branchings_of claim.tree.now ≡ claim.branchings →
    NoneFails (IsMisshapen claim.tree.now ∷ HasOtherBranchings claim.branchings claim.tree.now ∷ [])
list_passes claim whole same = (not_misshapen claim.tree.now whole, (not_other_branchings claim.branchings claim.tree.now same, tt))

pub none_fails : (problem : Meanings) → IsRelaxation problem → (root : List (List Bool)) (claim : Claim) → IsProvedClaim problem root claim → NoneFails (claim_tests problem root claim)
none_fails problem relaxation root claim proved =
    let proves : Proves problem root claim = does_prove problem root claim proved in
    let said = said_by claim.head in
    none_append (IsMisshapen claim.tree.now ∷ HasOtherBranchings claim.branchings claim.tree.now ∷ [])
    (tests_from problem 0 (nodes_in cut_of problem.catalogue (root ∷ []) claim.tree.now) ++ (plan_tests problem root (concluded_plan said) ++ head_tests said claim.tree.now))
    (list_passes claim proves.whole proves.branchings)
    (none_append (tests_from problem 0 (nodes_in cut_of problem.catalogue (root ∷ []) claim.tree.now)) (plan_tests problem root (concluded_plan said) ++ head_tests said claim.tree.now)
    (none_from problem 0 (root ∷ []) claim.tree.now proves.nodes)
    (none_append (plan_tests problem root (concluded_plan said)) (head_tests said claim.tree.now)
    (none_plan problem relaxation root (concluded_plan said) proves.plan) (none_said said claim.tree.now proves.said)))
