use Rattle.timetable.proofs.Renumbered.{units_are_renumbered_back}
use Rattle.timetable.proofs.laws.units_are_renumbered_back.Goals as goal

pub returns : goal.returns
returns c = record { law = units_are_renumbered_back }
