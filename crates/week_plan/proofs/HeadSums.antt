-- What the heads of days say together is the sum of what they say.
use Rattle.std.proofs.Common.{◌≡◌, [], ◌∷◌, Bool, refl, ap, ◌∙◌, Option}
use Rattle.std.specs.Prelude.{ℤ, ◌&&◌}
use Rattle.rules.specs.declared.heads.Head.{Head}
use Rattle.rules.specs.declared.heads.Head.TheVariants.{Optimal, Infeasible, Bounded, BoundedPlan}
use Rattle.week_plan.specs.Heads.{head_of, together}
use Rattle.week_plan.specs.Laws.{CostAddsUp, IsOptimalByDay, LeastAddsUp, added, cost_said, is_optimal, least_said}

least_of_both : (h r : Head) → least_said (together h r) ≡ added (least_said h) (least_said r)
least_of_both Infeasible r = refl
least_of_both (Optimal c) Infeasible = refl
least_of_both (Optimal c) (Optimal d) = refl
least_of_both (Optimal c) (Bounded d) = refl
least_of_both (Optimal c) (BoundedPlan d e) = refl
least_of_both (Bounded c) Infeasible = refl
least_of_both (Bounded c) (Optimal d) = refl
least_of_both (Bounded c) (Bounded d) = refl
least_of_both (Bounded c) (BoundedPlan d e) = refl
least_of_both (BoundedPlan c f) Infeasible = refl
least_of_both (BoundedPlan c f) (Optimal d) = refl
least_of_both (BoundedPlan c f) (Bounded d) = refl
least_of_both (BoundedPlan c f) (BoundedPlan d e) = refl

cost_of_both : (h r : Head) → cost_said (together h r) ≡ added (cost_said h) (cost_said r)
cost_of_both Infeasible r = refl
cost_of_both (Optimal c) Infeasible = refl
cost_of_both (Optimal c) (Optimal d) = refl
cost_of_both (Optimal c) (Bounded d) = refl
cost_of_both (Optimal c) (BoundedPlan d e) = refl
cost_of_both (Bounded c) Infeasible = refl
cost_of_both (Bounded c) (Optimal d) = refl
cost_of_both (Bounded c) (Bounded d) = refl
cost_of_both (Bounded c) (BoundedPlan d e) = refl
cost_of_both (BoundedPlan c f) Infeasible = refl
cost_of_both (BoundedPlan c f) (Optimal d) = refl
cost_of_both (BoundedPlan c f) (Bounded d) = refl
cost_of_both (BoundedPlan c f) (BoundedPlan d e) = refl

optimal_both : (h r : Head) → is_optimal (together h r) ≡ (is_optimal h && is_optimal r)
optimal_both Infeasible r = refl
optimal_both (Optimal c) Infeasible = refl
optimal_both (Optimal c) (Optimal d) = refl
optimal_both (Optimal c) (Bounded d) = refl
optimal_both (Optimal c) (BoundedPlan d e) = refl
optimal_both (Bounded c) Infeasible = refl
optimal_both (Bounded c) (Optimal d) = refl
optimal_both (Bounded c) (Bounded d) = refl
optimal_both (Bounded c) (BoundedPlan d e) = refl
optimal_both (BoundedPlan c f) Infeasible = refl
optimal_both (BoundedPlan c f) (Optimal d) = refl
optimal_both (BoundedPlan c f) (Bounded d) = refl
optimal_both (BoundedPlan c f) (BoundedPlan d e) = refl

pub least_adds_up : LeastAddsUp
least_adds_up [] = refl
least_adds_up (answer ∷ answers) =
    least_of_both answer.head (head_of answers) ∙ ap (λ (more : Option ℤ). added (least_said answer.head) more) (least_adds_up answers)

pub cost_adds_up : CostAddsUp
cost_adds_up [] = refl
cost_adds_up (answer ∷ answers) =
    cost_of_both answer.head (head_of answers) ∙ ap (λ (more : Option ℤ). added (cost_said answer.head) more) (cost_adds_up answers)

pub optimal_by_day : IsOptimalByDay
optimal_by_day [] = refl
optimal_by_day (answer ∷ answers) =
    optimal_both answer.head (head_of answers) ∙ ap (λ (more : Bool). is_optimal answer.head && more) (optimal_by_day answers)
