use Rattle.commands.proofs.Readings.{reads}
use Rattle.commands.proofs.command_words.read_words.Goals as goal

pub returns : goal.returns
returns c = reads c.args.words.now c.command.result c.command.ensures
