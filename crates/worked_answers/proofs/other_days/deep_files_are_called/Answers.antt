use Rattle.worked_answers.proofs.DeepFiles.{deep_files_are_called}
use Rattle.worked_answers.proofs.other_days.deep_files_are_called.Goals as goal

pub returns : goal.returns
returns c = record { law = deep_files_are_called c.paths_nest.ensures.nest }
