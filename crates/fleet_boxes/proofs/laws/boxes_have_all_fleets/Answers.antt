use Rattle.fleet_boxes.proofs.Parts.{boxes_have_all_fleets}
use Rattle.fleet_boxes.proofs.laws.boxes_have_all_fleets.Goals as goal

pub returns : goal.returns
returns c = record { law = boxes_have_all_fleets }
