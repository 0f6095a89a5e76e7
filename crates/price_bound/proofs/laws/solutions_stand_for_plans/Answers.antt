use Rattle.price_bound.proofs.Planned.{no_solutions_no_plans, solutions_bound_plans}
use Rattle.price_bound.proofs.laws.solutions_stand_for_plans.Goals as goal

pub returns : goal.returns
returns c = record { bound = solutions_bound_plans; none = no_solutions_no_plans }
