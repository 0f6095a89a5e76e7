use Rattle.timetable.proofs.KthUnits.{kth_units_are_among}
use Rattle.timetable.proofs.laws.kth_units_are_among.Goals as goal

pub returns : goal.returns
returns c = record { law = kth_units_are_among }
