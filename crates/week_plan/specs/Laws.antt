-- What the head of a week says is the sum of what those of its days say.
use Rattle.std.specs.Prelude.{◌≡◌, List, [], ◌∷◌, Bool, true, false, ℤ, pos, ◌+ℤ◌}
use Rattle.std.specs.Prelude.{Option, Some, None, option_and_then, option_map}
use Rattle.std.specs.List.{list_all}
use Rattle.answer_text.specs.declared.answer.Answer.{Answer}
use Rattle.rules.specs.declared.heads.Head.{Head}
use Rattle.rules.specs.declared.heads.Head.TheVariants.{Optimal, Infeasible, Bounded, BoundedPlan}
use Rattle.week_plan.specs.Heads.{head_of}

-- what no plan costs less than: what an optimal one costs, or the bound; nothing is said where no plan runs
abbrev pub least_said : Head → Option ℤ
least_said (Optimal cost) = Some cost.0
least_said Infeasible = None
least_said (Bounded bound) = Some bound.0
least_said (BoundedPlan bound cost) = Some bound.0

-- what the plan costs, where there is one
abbrev pub cost_said : Head → Option ℤ
cost_said (Optimal cost) = Some cost.0
cost_said Infeasible = None
cost_said (Bounded bound) = None
cost_said (BoundedPlan bound cost) = Some cost.0

-- whether the plan is said to cost least
abbrev pub is_optimal : Head → Bool
is_optimal (Optimal cost) = true
is_optimal Infeasible = false
is_optimal (Bounded bound) = false
is_optimal (BoundedPlan bound cost) = false

-- the sum of two amounts, where both are said
abbrev pub added : Option ℤ → Option ℤ → Option ℤ
added one other = option_and_then (λ amount. option_map (λ more. amount +ℤ more) other) one

-- the sum of what the answers to all days say, where each of them says it
abbrev pub sum_said : (Head → Option ℤ) → List Answer → Option ℤ
sum_said said [] = Some (pos 0)
sum_said said (answer ∷ answers) = added (said answer.head) (sum_said said answers)

-- what no week plan costs less than is the sum of what no plans of its days cost less than
abbrev pub LeastAddsUp : Type 0
LeastAddsUp = (answers : List Answer) → least_said (head_of answers) ≡ sum_said least_said answers

-- the plan of the week costs what the plans of its days cost together; there is none where a day has none
abbrev pub CostAddsUp : Type 0
CostAddsUp = (answers : List Answer) → cost_said (head_of answers) ≡ sum_said cost_said answers

-- it is said to cost least exactly where the plan of each day is
abbrev pub IsOptimalByDay : Type 0
IsOptimalByDay = (answers : List Answer)
    → is_optimal (head_of answers) ≡ list_all (λ answer. is_optimal answer.head) answers
