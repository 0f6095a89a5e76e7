use Rattle.timetable.proofs.Deciding.{chains_are_all_one}
use Rattle.timetable.proofs.laws.chains_are_one.Goals as goal

pub returns : goal.returns
returns c = record { law = chains_are_all_one }
