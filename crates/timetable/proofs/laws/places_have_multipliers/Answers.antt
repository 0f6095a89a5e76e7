use Rattle.timetable.proofs.Indices.{have_multipliers}
use Rattle.timetable.proofs.laws.places_have_multipliers.Goals as goal

pub returns : goal.returns
returns c = record { law = have_multipliers }
