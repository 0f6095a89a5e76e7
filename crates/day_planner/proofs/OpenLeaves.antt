-- Which leaves are open goes by the cost of a plan, whatever its picks.
use Rattle.std.proofs.Common.{◌≡◌, ℕ, ◌+◌, List, [], ◌∷◌, ℤ, Some, refl, ap}
use Rattle.std.specs.Prelude.{if◌then◌else◌}
use Rattle.branch_tree.specs.declared.tree.Node.{Node}
use Rattle.branch_tree.specs.declared.tree.Node.TheVariants.{Branch, CostLeaf, RayLeaf, EmptyLeaf}
use Rattle.branch_tree.specs.Claims.{is_below, open_leaves_of, concluded_plan}
use Rattle.answer_text.specs.declared.answer.Answer.{Answer}
use Rattle.rules.specs.declared.heads.Head.{Head}
use Rattle.rules.specs.declared.heads.Head.TheVariants.{Optimal, Infeasible, Bounded, BoundedPlan}
use Rattle.answer_check.specs.Validity.{conclusion_of}
use Rattle.answer_check.specs.ProvedTrees.{open_leaves, plan_said}

same_open : (cost : ℤ) (picks others : List ℕ) (nodes : List Node)
    → open_leaves_of (Some (record { cost = cost; picks = picks })) nodes
    ≡ open_leaves_of (Some (record { cost = cost; picks = others })) nodes
same_open cost picks others [] = refl
same_open cost picks others (Branch cut ∷ nodes) = ap (λ (n : ℕ). 0 + n) (same_open cost picks others nodes)
same_open cost picks others (CostLeaf bound entries ∷ nodes) =
    ap (λ (n : ℕ). (if is_below bound.0 (Some (record { cost = cost; picks = others })) then 1 else 0) + n)
    (same_open cost picks others nodes)
same_open cost picks others (RayLeaf entries ∷ nodes) = ap (λ (n : ℕ). 0 + n) (same_open cost picks others nodes)
same_open cost picks others (EmptyLeaf ∷ nodes) = ap (λ (n : ℕ). 0 + n) (same_open cost picks others nodes)

of_head : (head : Head) (picks : List ℕ) (nodes : List Node)
    → open_leaves_of (concluded_plan (conclusion_of head picks)) nodes ≡ open_leaves_of (concluded_plan (conclusion_of head [])) nodes
of_head (Optimal cost) picks nodes = same_open cost.0 picks [] nodes
of_head Infeasible picks nodes = refl
of_head (Bounded bound) picks nodes = refl
of_head (BoundedPlan bound cost) picks nodes = same_open cost.0 picks [] nodes

pub open_by_cost : (answer : Answer) (picks : List ℕ)
    → open_leaves_of (plan_said answer picks) answer.tree ≡ open_leaves answer
open_by_cost answer picks = of_head answer.head picks answer.tree
