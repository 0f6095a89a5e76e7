use Rattle.std.proofs.Common.{rules}
use Rattle.day_files.proofs.texts.at_column.Goals as goal

pub returns : goal.returns
returns c = search rules
