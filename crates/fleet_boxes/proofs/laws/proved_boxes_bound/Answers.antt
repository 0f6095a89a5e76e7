use Rattle.fleet_boxes.proofs.Walking.{proved_boxes_bound}
use Rattle.fleet_boxes.proofs.laws.proved_boxes_bound.Goals as goal

pub returns : goal.returns
returns c = record { law = proved_boxes_bound }
