use Rattle.std.proofs.Common.{rules}
use Rattle.trial_day.proofs.rows.turn_row.Goals as goal

pub returns : goal.returns
returns c = search rules
