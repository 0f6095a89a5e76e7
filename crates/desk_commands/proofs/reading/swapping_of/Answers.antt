use Rattle.std.proofs.Common.{rules}
use Rattle.plain_words.specs.Items.{positional_in}
use Rattle.desk_commands.proofs.Readings.{one_word}
use Rattle.desk_commands.proofs.reading.swapping_of.Goals as goal

pub returns : goal.returns
returns c = one_word (positional_in c.args.given.now) c.in_ok-dir.dir c.requires.places (search rules)
