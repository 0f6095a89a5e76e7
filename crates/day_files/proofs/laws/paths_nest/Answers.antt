use Rattle.day_files.proofs.OneFile.{paths_nest}
use Rattle.day_files.proofs.laws.paths_nest.Goals as goal

pub returns : goal.returns
returns c = record { nest = paths_nest }
