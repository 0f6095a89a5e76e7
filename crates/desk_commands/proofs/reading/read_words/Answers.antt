use Rattle.std.proofs.Common.{rules}
use Rattle.desk_commands.proofs.Readings.{reads}
use Rattle.desk_commands.proofs.reading.read_words.Goals as goal

pub returns : goal.returns
returns c = reads _ _ _ _ c.at.ensures (search rules) c.command_of.ensures
