use Rattle.std.proofs.Common.{rules}
use Rattle.day_simulator.proofs.day.Day.first_missing_event.Goals as goal

pub returns : goal.returns
returns c = search rules
