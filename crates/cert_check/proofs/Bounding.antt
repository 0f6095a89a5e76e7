-- The cost leaves of a tree, one after another.
use Rattle.std.proofs.Common.{◌≡◌, ℕ, suc, ◌+◌, ◌<◌, List, [], ◌∷◌, length, drop, slice_get, true, false, ℤ, int_lt}
use Rattle.std.proofs.Common.{◌≤ℤ◌, ◌<ℤ◌, All, Some, None, is_some, refl, sym, ap, subst, arith, inl, inr, unwrap_or}
use Rattle.std.proofs.lemmas.Int.{ints}
use Rattle.std.proofs.lemmas.List.Elements.{All-cons, All-head}
use Rattle.rail_base.specs.declared.numbers.Money.{Money}
use Rattle.branch_tree.specs.declared.tree.Node.{Node}
use Rattle.branch_tree.specs.declared.tree.Node.TheVariants.{Branch, CostLeaf, RayLeaf, EmptyLeaf}
use Rattle.branch_tree.specs.Trees.{bound_of, bounds_of}
use Rattle.cert_check.specs.declared.verdict.Reason.{Reason}
use Rattle.cert_check.specs.Reasons.{leaf_tests}
use Rattle.cert_check.specs.Tests.{Test, FirstFails, IsPassed}
use Rattle.cert_check.proofs.Listed.{one_more, drop_at_node}

-- what the nodes from a number on say of the cost leaves of all, where those before it passed a test
pub record AreOnWay (test : ℕ → Money → Test) (P : ℤ → Type 0) (all : List Node) (number : ℕ) (rest : List Node) : Type 0 where
  pub first : (reason : Reason) → FirstFails (leaf_tests test number rest) reason → FirstFails (leaf_tests test 0 all) reason
  pub each : All P (bounds_of rest) → All P (bounds_of all)

-- a node that is no cost leaf
pub leaves_skip : (test : ℕ → Money → Test) (P : ℤ → Type 0) (all : List Node) (number : ℕ) (node : Node) (rest : List Node) →
    bound_of node ≡ None → AreOnWay test P all number (node ∷ rest) → AreOnWay test P all (suc number) rest
leaves_skip test P all number (Branch cut) rest none way = record { first = way.first; each = way.each }
leaves_skip test P all number (CostLeaf bound multipliers) rest none way = absurd (cc)
leaves_skip test P all number (RayLeaf multipliers) rest none way = record { first = way.first; each = way.each }
leaves_skip test P all number EmptyLeaf rest none way = record { first = way.first; each = way.each }

-- a cost leaf that passes its test
pub leaves_pass : (test : ℕ → Money → Test) (P : ℤ → Type 0) (all : List Node) (number : ℕ) (node : Node) (rest : List Node) (bound : Money) →
    bound_of node ≡ Some bound → IsPassed (test number bound) → P bound.0 → AreOnWay test P all number (node ∷ rest) → AreOnWay test P all (suc number) rest
leaves_pass test P all number (Branch cut) rest bound some passed is way = absurd (cc)
leaves_pass test P all number (CostLeaf other multipliers) rest bound some passed is way =
    let same : other ≡ bound = ap {B = Money} (λ o. unwrap_or o other) some in
    record {
      first = λ reason fails. way.first reason (inr (subst (λ b. IsPassed (test number b)) (sym same) passed, fails));
      each = λ each. way.each (All-cons P other.0 (bounds_of rest) (subst (λ (b : Money). P b.0) (sym same) is) each);
    }
leaves_pass test P all number (RayLeaf multipliers) rest bound some passed is way = absurd (cc)
leaves_pass test P all number EmptyLeaf rest bound some passed is way = absurd (cc)

-- a cost leaf that fails its test
pub leaves_stop : (test : ℕ → Money → Test) (P : ℤ → Type 0) (all : List Node) (number : ℕ) (node : Node) (rest : List Node) (bound : Money) (reason : Reason) →
    bound_of node ≡ Some bound → test number bound reason → AreOnWay test P all number (node ∷ rest) → FirstFails (leaf_tests test 0 all) reason
leaves_stop test P all number (Branch cut) rest bound reason some fails way = absurd (cc)
leaves_stop test P all number (CostLeaf other multipliers) rest bound reason some fails way =
    way.first reason (inl (subst (λ b. test number b reason) (sym (ap {B = Money} (λ o. unwrap_or o other) some)) fails))
leaves_stop test P all number (RayLeaf multipliers) rest bound reason some fails way = absurd (cc)
leaves_stop test P all number EmptyLeaf rest bound reason some fails way = absurd (cc)

-- a node that has a bound
pub record HasBound (node : Node) : Type 0 where
  pub bound : Money
  pub is : bound_of node ≡ Some bound

pub has_bound : (node : Node) → is_some (bound_of node) ≡ true → HasBound node
has_bound (Branch cut) some = absurd (cc)
has_bound (CostLeaf bound multipliers) some = record { bound = bound; is = refl }
has_bound (RayLeaf multipliers) some = absurd (cc)
has_bound EmptyLeaf some = absurd (cc)

pub no_bound : (node : Node) → is_some (bound_of node) ≡ false → bound_of node ≡ None
no_bound (Branch cut) none = refl
no_bound (CostLeaf bound multipliers) none = absurd (cc)
no_bound (RayLeaf multipliers) none = refl
no_bound EmptyLeaf none = refl

pub not_below : (a b : ℤ) → int_lt a b ≡ false → b ≤ℤ a
not_below a b not_lower = omega (arith, ints, not_lower)

pub not_both : (a b : ℤ) → a ≤ℤ b → b <ℤ a → ⊥
not_both a b p q = omega (arith, ints, p, q)

-- no bound is what none is
pub no_bounds : (bounds : List ℤ) → All (λ bound. ⊥) bounds → bounds ≡ []
no_bounds [] none = refl
no_bounds (bound ∷ bounds) none = absurd (All-head (λ bound. ⊥) bound bounds none)

-- ---- by the number of a node

pub skip_at : (test : ℕ → Money → Test) (P : ℤ → Type 0) (all : List Node) (number : ℕ) (node : Node) → number < length all → slice_get all number ≡ Some node →
    bound_of node ≡ None → AreOnWay test P all number (drop number all) → AreOnWay test P all (number + 1) (drop (number + 1) all)
skip_at test P all number node inside at none way = subst (λ n. AreOnWay test P all n (drop (number + 1) all)) (one_more number)
    (leaves_skip test P all number node (drop (number + 1) all) none (subst (AreOnWay test P all number) (drop_at_node all number node inside at) way))

pub pass_at : (test : ℕ → Money → Test) (P : ℤ → Type 0) (all : List Node) (number : ℕ) (node : Node) (bound : Money) → number < length all → slice_get all number ≡ Some node →
    bound_of node ≡ Some bound → IsPassed (test number bound) → P bound.0 → AreOnWay test P all number (drop number all) → AreOnWay test P all (number + 1) (drop (number + 1) all)
pass_at test P all number node bound inside at some passed is way = subst (λ n. AreOnWay test P all n (drop (number + 1) all)) (one_more number)
    (leaves_pass test P all number node (drop (number + 1) all) bound some passed is (subst (AreOnWay test P all number) (drop_at_node all number node inside at) way))

pub stop_at : (test : ℕ → Money → Test) (P : ℤ → Type 0) (all : List Node) (number : ℕ) (node : Node) (bound : Money) (reason : Reason) → number < length all → slice_get all number ≡ Some node →
    bound_of node ≡ Some bound → test number bound reason → AreOnWay test P all number (drop number all) → FirstFails (leaf_tests test 0 all) reason
stop_at test P all number node bound reason inside at some fails way =
    leaves_stop test P all number node (drop (number + 1) all) bound reason some fails (subst (AreOnWay test P all number) (drop_at_node all number node inside at) way)
