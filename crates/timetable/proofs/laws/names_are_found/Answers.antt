use Rattle.timetable.proofs.FoundNames.{names_are_found}
use Rattle.timetable.proofs.laws.names_are_found.Goals as goal

pub returns : goal.returns
returns c = record { law = names_are_found }
