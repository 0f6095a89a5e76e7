use Rattle.std.proofs.Common.{rules}
use Rattle.day_files.proofs.texts.instance_file.Goals as goal

pub returns-in-TooManyUnits : goal.returns-in-TooManyUnits
returns-in-TooManyUnits c = search rules
