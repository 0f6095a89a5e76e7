-- Files in folders that lie below folders, by the law on paths.
use Rattle.std.proofs.Common.{◌∙◌, ap}
use Rattle.rail_io.specs.Folders.{file_at}
use Rattle.day_files.specs.OneFile.{PathsNest, path_in}
use Rattle.worked_answers.specs.DeepFiles.{DeepFilesAreCalled}

pub deep_files_are_called : PathsNest → DeepFilesAreCalled
deep_files_are_called nest files dir week day name =
    ap (file_at files) (nest (path_in dir week) day name ∙ nest dir week (path_in day name))
