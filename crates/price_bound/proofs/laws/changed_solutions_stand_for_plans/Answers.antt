use Rattle.price_bound.proofs.ChangedPlans.{changed_solutions_bound_plans, no_changed_solutions_no_plans}
use Rattle.price_bound.proofs.Planned.{plans_lie_in_roots}
use Rattle.price_bound.proofs.laws.changed_solutions_stand_for_plans.Goals as goal

pub returns : goal.returns
returns c = record {
  bound = changed_solutions_bound_plans;
  none = no_changed_solutions_no_plans;
  root = plans_lie_in_roots;
}
