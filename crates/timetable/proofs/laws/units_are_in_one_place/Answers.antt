use Rattle.timetable.proofs.OnePlace.{units_are_in_one_place}
use Rattle.timetable.proofs.laws.units_are_in_one_place.Goals as goal

pub returns : goal.returns
returns c = record { law = units_are_in_one_place }
