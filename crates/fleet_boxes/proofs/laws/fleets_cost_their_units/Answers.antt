use Rattle.fleet_boxes.proofs.Costs.{fleets_cost_their_units}
use Rattle.fleet_boxes.proofs.laws.fleets_cost_their_units.Goals as goal

pub returns : goal.returns
returns c = record { law = fleets_cost_their_units }
