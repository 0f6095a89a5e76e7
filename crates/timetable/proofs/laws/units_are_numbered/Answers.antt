use Rattle.timetable.proofs.NumberedUnits.{units_are_numbered}
use Rattle.timetable.proofs.laws.units_are_numbered.Goals as goal

pub returns : goal.returns
returns c = record { law = units_are_numbered }
