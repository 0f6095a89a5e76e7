use Rattle.inventory.proofs.serving_laws.plans_are_served.Goals as goal
use Rattle.inventory.proofs.Serving.{served}

pub returns : goal.returns
returns c = record { law = λ day plan is_day links stocked runs. served day plan is_day links stocked runs }
