-- What a tree proves is true of all solutions in its root.
use Rattle.std.proofs.Common.{◌≡◌, ℕ, suc, ◌<◌, List, [], ◌∷◌, ◌++◌, length, Bool, true, false, IsTrue, if◌then◌else◌}
use Rattle.std.proofs.Common.{Some, Contains, All, ℤ, ◌≤ℤ◌, refl, ap, arith}
use Rattle.std.proofs.lemmas.Int.{ints}
use Rattle.std.proofs.lemmas.List.Elements.{All-contains}
use Rattle.branch_tree.specs.declared.tree.Node.{Node}
use Rattle.branch_tree.specs.declared.tree.Node.TheVariants.{Branch, CostLeaf, RayLeaf, EmptyLeaf}
use Rattle.branch_tree.specs.Claims.{Conclusion, optimal, infeasible, bounded, bounded_plan, IsProved, IsProvedAt}
use Rattle.branch_tree.specs.Laws.{ProvedIsConcluded}
use Rattle.branch_tree.specs.Meanings.{Meanings, IsRelaxation}
use Rattle.branch_tree.specs.Regions.{are_in}
use Rattle.branch_tree.specs.Trees.{Walks, cut_of, regions_below, bounds_of}
use Rattle.branch_tree.proofs.Covering.{regions_with, regions_below-with}
use Rattle.branch_tree.proofs.Walking.{proved_at}
use Rattle.branch_tree.proofs.Duality.{chain_values_bound, empty_has_no_solution, rays_have_no_solution}

-- a bound of some cost leaf that the picks cost at least
record IsBounded (problem : Meanings) (picks : List ℕ) (bounds : List ℤ) : Type 0 where
  value : ℤ
  one : Contains bounds value
  least : value ≤ℤ problem.cost picks

later : (problem : Meanings) (picks : List ℕ) (bound : ℤ) (bounds : List ℤ) → IsBounded problem picks bounds → IsBounded problem picks (bound ∷ bounds)
later problem picks bound bounds is = record { value = is.value; one = (suc is.one.0, omega (arith, is.one.1), is.one.2); least = is.least }

bounded_by : (problem : Meanings) → IsRelaxation problem → (picks : List ℕ) → problem.IsSolution picks → (regions : List (List (List Bool))) (nodes : List Node) →
    Walks cut_of problem.catalogue (IsProvedAt problem) regions nodes → 0 < regions_with picks regions → IsBounded problem picks (bounds_of nodes)
unfolding regions_with
bounded_by problem relaxation picks solution [] [] walks some = absurd (omega (arith, some))
bounded_by problem relaxation picks solution [] (node ∷ nodes) walks some = absurd walks
bounded_by problem relaxation picks solution (region ∷ regions) [] walks some = absurd walks
bounded_by problem relaxation picks solution (region ∷ regions) (Branch cut ∷ nodes) walks some =
    bounded_by problem relaxation picks solution (regions_below problem.catalogue region (Some cut) ++ regions) nodes walks.1
    (omega (arith, some, regions_below-with problem.catalogue picks region regions cut walks.0.proper))
bounded_by problem relaxation picks solution (region ∷ regions) (CostLeaf bound multipliers ∷ nodes) walks some = at (are_in picks region) refl
    (λ rest. bounded_by problem relaxation picks solution regions nodes walks.1 rest)
  where
    at : (b : Bool) → are_in picks region ≡ b → (0 < regions_with picks regions → IsBounded problem picks (bounds_of nodes)) → IsBounded problem picks (bound.0 ∷ bounds_of nodes)
    at true inside rest = record { value = bound.0; one = (0, omega arith, refl); least = chain_values_bound problem relaxation region multipliers bound.0 walks.0.fitting walks.0.bound picks solution inside }
    at false outside rest = later problem picks bound.0 (bounds_of nodes) (rest (omega (arith, some, ap {B = ℕ} (λ b. if b then 1 else 0) outside)))
bounded_by problem relaxation picks solution (region ∷ regions) (RayLeaf multipliers ∷ nodes) walks some = at (are_in picks region) refl
    (λ rest. bounded_by problem relaxation picks solution regions nodes walks.1 rest)
  where
    at : (b : Bool) → are_in picks region ≡ b → (0 < regions_with picks regions → IsBounded problem picks (bounds_of nodes)) → IsBounded problem picks (bounds_of nodes)
    at true inside rest = absurd (rays_have_no_solution problem relaxation region multipliers walks.0.fitting walks.0.ray picks solution inside)
    at false outside rest = rest (omega (arith, some, ap {B = ℕ} (λ b. if b then 1 else 0) outside))
bounded_by problem relaxation picks solution (region ∷ regions) (EmptyLeaf ∷ nodes) walks some = at (are_in picks region) refl
    (λ rest. bounded_by problem relaxation picks solution regions nodes walks.1 rest)
  where
    at : (b : Bool) → are_in picks region ≡ b → (0 < regions_with picks regions → IsBounded problem picks (bounds_of nodes)) → IsBounded problem picks (bounds_of nodes)
    at true inside rest = absurd (empty_has_no_solution problem relaxation region walks.0.empty picks solution inside)
    at false outside rest = rest (omega (arith, some, ap {B = ℕ} (λ b. if b then 1 else 0) outside))

in_root : (picks : List ℕ) (root : List (List Bool)) → are_in picks root ≡ true → 0 < regions_with picks (root ∷ [])
unfolding regions_with
in_root picks root inside = omega (arith, ap {B = ℕ} (λ b. if b then 1 else 0) inside)

-- a solution in the root costs at least some bound of a cost leaf
some_bound : (problem : Meanings) → IsRelaxation problem → (root : List (List Bool)) (conclusion : Conclusion) (branchings : ℕ) (nodes : List Node) →
    IsProved problem root conclusion branchings nodes → (picks : List ℕ) → problem.IsSolution picks → IsTrue (are_in picks root) → IsBounded problem picks (bounds_of nodes)
some_bound problem relaxation root conclusion branchings nodes proved picks solution inside =
    bounded_by problem relaxation picks solution (root ∷ []) nodes (proved_at problem (root ∷ []) nodes proved.proper proved.fitting proved.bounds proved.rays proved.empty) (in_root picks root inside)

above_all : (problem : Meanings) (bounds : List ℤ) (least : ℤ) (picks : List ℕ) → All (λ bound. least ≤ℤ bound) bounds → IsBounded problem picks bounds → least ≤ℤ problem.cost picks
above_all problem bounds least picks all is = between least is.value (problem.cost picks) (All-contains (λ bound. least ≤ℤ bound) bounds is.value all is.one) is.least
  where
    between : (a b c : ℤ) → a ≤ℤ b → b ≤ℤ c → a ≤ℤ c
    between a b c p q = omega (arith, ints, p, q)

pub proved_is_concluded : (problem : Meanings) → IsRelaxation problem → ProvedIsConcluded problem
proved_is_concluded problem relaxation root (optimal plan) branchings nodes proved =
    (proved.plan, λ picks solution inside. above_all problem (bounds_of nodes) plan.cost picks proved.head (some_bound problem relaxation root (optimal plan) branchings nodes proved picks solution inside))
proved_is_concluded problem relaxation root infeasible branchings nodes proved = λ picks solution inside.
    let is : IsBounded problem picks (bounds_of nodes) = some_bound problem relaxation root infeasible branchings nodes proved picks solution inside in
    omega (arith, is.one.1, ap length proved.head)
proved_is_concluded problem relaxation root (bounded bound) branchings nodes proved = λ picks solution inside.
    above_all problem (bounds_of nodes) bound picks proved.head.all (some_bound problem relaxation root (bounded bound) branchings nodes proved picks solution inside)
proved_is_concluded problem relaxation root (bounded_plan bound plan) branchings nodes proved =
    (proved.plan, λ picks solution inside. above_all problem (bounds_of nodes) bound picks proved.head.all (some_bound problem relaxation root (bounded_plan bound plan) branchings nodes proved picks solution inside))
