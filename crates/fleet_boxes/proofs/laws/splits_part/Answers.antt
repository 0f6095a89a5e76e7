use Rattle.fleet_boxes.proofs.Parts.{splits_part}
use Rattle.fleet_boxes.proofs.laws.splits_part.Goals as goal

pub returns : goal.returns
returns c = record { law = splits_part }
