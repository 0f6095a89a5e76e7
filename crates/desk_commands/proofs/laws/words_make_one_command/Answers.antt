use Rattle.desk_commands.proofs.OneCommand.{one_command}
use Rattle.desk_commands.proofs.laws.words_make_one_command.Goals as goal

pub returns : goal.returns
returns c = record { one = one_command }
