-- What a head says, part by part.
use Rattle.std.proofs.Common.{ℕ, List, Bool, IsTrue, refl, ℤ}
use Rattle.branch_tree.specs.Claims.{CostsAtLeast, HasNoSolution, IsConcluded, IsPlanIn}
use Rattle.branch_tree.specs.Meanings.{Meanings}
use Rattle.rules.specs.declared.heads.Head.{Head}
use Rattle.rules.specs.declared.heads.Head.TheVariants.{Optimal, Infeasible, Bounded, BoundedPlan}
use Rattle.answer_text.specs.Limits.{has_plan}
use Rattle.answer_check.specs.Headline.{Says}
use Rattle.answer_check.specs.Validity.{conclusion_of}

-- where one part follows from the other, of a plan, of a bound and of none, so does all that a head says
pub says_more : (IsPlan IsPlan' CostAtLeast CostAtLeast' : ℤ → Type 0) (NoneRuns NoneRuns' : Type 0) (head : Head)
    → (IsTrue (has_plan head) → (cost : ℤ) → IsPlan cost → IsPlan' cost)
    → ((bound : ℤ) → CostAtLeast bound → CostAtLeast' bound) → (NoneRuns → NoneRuns')
    → Says IsPlan CostAtLeast NoneRuns head → Says IsPlan' CostAtLeast' NoneRuns' head
says_more P P' B B' N N' (Optimal cost) plan bound none said = (plan refl cost.0 said.0, bound cost.0 said.1)
says_more P P' B B' N N' Infeasible plan bound none said = none said
says_more P P' B B' N N' (Bounded b) plan bound none said = bound b.0 said
says_more P P' B B' N N' (BoundedPlan b cost) plan bound none said = (plan refl cost.0 said.0, bound b.0 said.1)

-- what is concluded of solutions is what the head says of them
pub concluded_says : (problem : Meanings) (root : List (List Bool)) (picks : List ℕ) (head : Head)
    → IsConcluded problem root (conclusion_of head picks)
    → Says (λ cost. IsPlanIn problem root (record { cost = cost; picks = picks })) (CostsAtLeast problem root)
    (HasNoSolution problem root) head
concluded_says problem root picks (Optimal cost) concluded = concluded
concluded_says problem root picks Infeasible concluded = concluded
concluded_says problem root picks (Bounded bound) concluded = concluded
concluded_says problem root picks (BoundedPlan bound cost) concluded = concluded
