use Rattle.timetable.proofs.WholeTurns.{have_parts}
use Rattle.timetable.proofs.laws.turns_have_parts.Goals as goal

pub returns : goal.returns
returns c = record { law = have_parts }
