use Rattle.fleet_boxes.proofs.Costs.{larger_fleets_cost_no_less}
use Rattle.fleet_boxes.proofs.laws.larger_fleets_cost_no_less.Goals as goal

pub returns : goal.returns
returns c = record { law = larger_fleets_cost_no_less }
