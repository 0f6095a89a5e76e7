use Rattle.week_plan.proofs.HeadSums.{cost_adds_up, least_adds_up, optimal_by_day}
use Rattle.week_plan.proofs.laws.heads_add_up.Goals as goal

pub returns : goal.returns
returns c = record { least = least_adds_up; cost = cost_adds_up; optimal = optimal_by_day }
