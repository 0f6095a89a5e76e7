use Rattle.timetable.proofs.PlainTurns.{is_plain_turn}
use Rattle.timetable.proofs.laws.turns_without_exchange.Goals as goal

pub returns : goal.returns
returns c = record { law = is_plain_turn }
