use Rattle.timetable.proofs.AtHome.{units_are_at_home}
use Rattle.timetable.proofs.laws.units_are_at_home.Goals as goal

pub returns : goal.returns
returns c = record { law = units_are_at_home }
